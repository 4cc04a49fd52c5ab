-- Laws of the rows: before the first, from one to the next by the entries of its column, and after the last. Assumes nothing.
use Prim.Native.Nat.{ℕ, suc, ◌+◌, ◌^◌, ◌<◌, ◌≤◌}
use mathlib.Core.Path.{◌≡◌, refl, sym, ap, ◌∙◌}
use mathlib.Core.Bool.{Bool, true}
use mathlib.Core.Logic.{inl, inr, ⊎_elim}
use mathlib.Core.List.{List}
use native.Mathlib.Omega.{arith}
use native.Mathlib.Decide.{ℕ_discrete, dec_lt}
use native.Mathlib.Numerals.{add-one}
use lib.ListN.{length, get_or, set, take, replicate, length-replicate, get_or-replicate, take-append-drop}
use lib.Seq.{get_or-set_other, length-take-le, get_or-take, ext_get_or}
use Rattle.desk.specs.Lists.{over}
use Rattle.desk.proofs.Over.{get_d_over, length_filled}
use Rattle.tree.specs.Strike.{joined, later, none, least_or, parents, counts}
use Rattle.tree.specs.Marks.{Setting, Room, Struck, given, Climbing, Start, Climbed, Column, Next}
use Rattle.tree.proofs.Liu.{entry-joined, row-all}
use Rattle.tree.proofs.Later.{later-none, later_apart, are_parents, length-counts, get_or-counts, length-parents, get_or-parents}
use Rattle.desk.proofs.Both.{is_false}
use Rattle.tree.proofs.Marking.{room-set, tables-same, given-marked, given-unmarked, marks, was_marked, given_other}

-- ---- before the first row

module _ (n v : ℕ) (old new : List ℕ) (e : new ≡ over (replicate n v) old) where
  filled_at : (i : ℕ) → i < n → get_or new i 0 ≡ v
  filled_at i h = rw e (get_d_over (replicate n v) old 0 i (omega (arith, length-replicate n v)) ∙ get_or-replicate n i v 0 h)

  filled_room : n ≤ length old → Room n new new
  filled_room h = record { enough = omega (arith, ap length e ∙ length_filled n v old h); size = refl; past = refl }

pub struck-none : (n : ℕ) (g : ℕ → ℕ → Bool) (w₀ w l₀ l e₀ e : List ℕ) → n < 2 ^ 32 → n ≤ length w₀ → n ≤ length l₀ → n ≤ length e₀ →
    w ≡ over (replicate n none) w₀ → l ≡ over (replicate n 0) l₀ → e ≡ over (replicate n none) e₀ →
    Struck (record { n = n; g = g; work = w; lnz = l; etree = e }) 0 w l e
struck-none n g w₀ w l₀ l e₀ e small rw₀ rl₀ re₀ qw ql qe = record {
  tables = record {
    small = small;
    room_work = filled_room n none w₀ w qw rw₀;
    room_counts = filled_room n 0 l₀ l ql rl₀;
    room_parents = filled_room n none e₀ e qe re₀;
    counted = λ i h. filled_at n 0 l₀ l ql i h ∙ sym (ap length (later-none g 0 i (omega arith)));
    parented = λ i h. filled_at n none e₀ e qe i h ∙ sym (ap (least_or none) (later-none g 0 i (omega arith)));
  };
  fresh = λ i m h k b q. omega (arith, filled_at n none w₀ w qw i h);
}

-- ---- within a row

-- each of the first k entries of j's column is marked
pub record Entering (s : Setting) (j : ℕ) (rows : List ℕ) (k : ℕ) (work lnz etree : List ℕ) : Type 0 where
  pub row : Climbing s j j work lnz etree
  pub met : (q : ℕ) → q < k → get_or work (get_or rows q 0) 0 ≡ j

module _ (s : Setting) (j : ℕ) (rows w l e : List ℕ) (x : Next s j rows w l e) where
  inside-work : j < length w
  inside-work = omega (arith, x.below, x.struck.tables.room_work.enough)

  unmarked_yet : (i : ℕ) → i < s.n → get_or w i 0 ≡ j → ⊥
  unmarked_yet i h q = x.struck.fresh i j h (omega arith) x.below q

  -- j's own mark gives no column a row
  given_yet : (i : ℕ) → i < s.n → later j s.g i ≡ later (given (set w j j) j i) s.g i
  given_yet i h = elim (ℕ_discrete i j) [
    | yes q ↦ rw (q, given-marked (set w j j) j j (marks w j j inside-work), later-none s.g j j (omega arith), later-none s.g (suc j) j (omega arith))
    | no ne ↦ rw (given_other w j j inside-work i ne, given-unmarked w j i (unmarked_yet i h))
  ]

  pub entering_none : Entering s j rows 0 (set w j j) l e
  entering_none = record {
    row = record {
      below = x.below;
      tables = tables-same s (λ i. j) (given (set w j j) j) w (set w j j) l e x.struck.tables (room-set _ _ w j j x.struck.tables.room_work x.below) given_yet;
      here = marks w j j inside-work;
      row = λ i h q. absurd (unmarked_yet i (omega (arith, x.below)) (was_marked w j j inside-work i (λ b. omega arith) q));
      closed = λ i h q. absurd (unmarked_yet i (omega (arith, x.below)) (was_marked w j j inside-work i (λ b. omega arith) q));
      fresh = λ i m h k b q. elim (ℕ_discrete i j) [
        | yes a ↦ omega (arith, rw (a, marks w j j inside-work) at q)
        | no ne ↦ x.struck.fresh i m h (omega arith) b (sym (get_or-set_other w j i j 0 ne) ∙ q)
      ];
    };
    met = λ q h. absurd (omega arith);
  }

module _ (s : Setting) (j : ℕ) (rows : List ℕ) (k : ℕ) (w l e : List ℕ) (a : Entering s j rows k w l e) (col : Column s.g j rows) where
  pub entering_start : k < length rows → {i : ℕ} → i ≡ get_or rows k 0 → Start s i j w l e
  entering_start h {i} q = record {
    row = a.row;
    on = rw q (⊎_elim (λ b. inl b) (λ (b, m). inr (b, entry-joined s.g (get_or rows k 0) j m)) (col.on k h));
  }

  pub entering_more : {i : ℕ} → i ≡ get_or rows k 0 → (w' l' e' : List ℕ) → Climbed s i j w w' l' e' → Entering s j rows (k + 1) w' l' e'
  entering_more {i} q w' l' e' c = record {
    row = c.row;
    met = λ m h. elim (ℕ_discrete m k) [ yes b ↦ rw (b, ← q) c.reached | no ne ↦ c.still (get_or rows m 0) (a.met m (omega arith)) ];
  }

  -- with all entries the marked are row j
  marked_all : length rows ≤ k → (i : ℕ) → i < j → joined s.g i i j ≡ true → get_or w i 0 ≡ j
  marked_all done =
      row-all s.g (suc j) (λ i. least_or none (later (suc j) s.g i)) (are_parents s.g (suc j)) j (omega arith)
      (λ i. get_or w i 0 ≡ j)
      (λ i h m. let (q, b, r) = col.all i h m in rw (← r) (a.met q (omega arith)))
      (λ i h m b.
      let q = a.row.tables.parented i (omega (arith, a.row.below)) ∙ ap (λ (v : ℕ). least_or none (later v s.g i)) (given-marked w j i m) in
      rw (← q) (⊎_elim (λ k. k) (λ r. absurd (omega (arith, q, r))) (a.row.closed i h m)))

  -- so each column has its rows below j + 1
  given-all : length rows ≤ k → (i : ℕ) → later (given w j i) s.g i ≡ later (suc j) s.g i
  given-all done i = elim (ℕ_discrete (get_or w i 0) j) [
    | yes m ↦ rw (given-marked w j i m)
    | no un ↦
        rw (given-unmarked w j i un)
        (elim (dec_lt i j) [
          | yes h ↦ rw (later_apart s.g i j h (is_false (joined s.g i i j) (λ o. un (marked_all done i h o))))
          | no ge ↦ rw (later-none s.g j i (omega arith), later-none s.g (suc j) i (omega arith))
        ])
  ]

  pub entering_done : length rows ≤ k → Struck s (j + 1) w l e
  entering_done done =
      rw add-one (record {
        tables = tables-same s (given w j) (λ i. suc j) w w l e a.row.tables a.row.tables.room_work (λ i h. given-all done i);
        fresh = a.row.fresh;
      })

-- ---- after the last row

-- a table that has y's numbers at its front is y over what it was
pub front_is : (n : ℕ) (y old new : List ℕ) → Room n old new → length y ≡ n → ((i : ℕ) → i < n → get_or new i 0 ≡ get_or y i 0) → new ≡ over y old
unfolding over
front_is n y old new r size same =
    let l : length (take n new) ≡ n = length-take-le n new r.enough in
    let front : take n new ≡ y = ext_get_or 0 (take n new) y (l ∙ sym size) (λ i h. get_or-take n new i 0 (omega arith) ∙ same i (omega arith)) in
    sym (take-append-drop n new) ∙ rw (front, r.past, size)

module _ (s : Setting) (j : ℕ) (w l e : List ℕ) (x : Struck s j w l e) (done : j ≡ s.n) where
  pub struck-counts : l ≡ over (counts s.n s.g) s.lnz
  struck-counts =
      front_is s.n (counts s.n s.g) s.lnz l x.tables.room_counts (length-counts s.g s.n) (λ i h.
      x.tables.counted i h ∙ rw done (sym (get_or-counts s.g s.n i h)))

  pub struck-parents : e ≡ over (parents s.n s.g) s.etree
  struck-parents =
      front_is s.n (parents s.n s.g) s.etree e x.tables.room_parents (length-parents s.g s.n) (λ i h.
      x.tables.parented i h ∙ rw done (sym (get_or-parents s.g s.n i h)))
