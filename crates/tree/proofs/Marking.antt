-- Laws of the marks and of one visit: it keeps what the tables say within a row, whatever the graph. Assumes nothing.
use Prim.Native.Nat.{ℕ, suc, ◌+◌, ◌<◌}
use mathlib.Core.Path.{◌≡◌, refl, sym, ap, ◌∙◌}
use mathlib.Core.Bool.{true}
use mathlib.Core.Logic.{inl, inr, ⊎_elim}
use mathlib.Core.List.{List, [], ◌∷◌, ◌++◌}
use native.Mathlib.Omega.{arith}
use native.Mathlib.Decide.{ℕ_discrete}
use borrow.Author.Tests.{eq-eqb, ne_eqb}
use lib.ListN.{length, get_or, set, length-set, length-append}
use lib.Seq.{get_or-set_same, get_or-set_other, drop-set-lt}
use Rattle.tree.specs.Strike.{joined, later, none, least_or}
use Rattle.tree.specs.Marks.{Setting, Room, Tables, given, On, Climbing, Visitable, or_else, Visited}
use Rattle.tree.proofs.Liu.{parent_joined}
use Rattle.tree.proofs.Later.{later-joined, length-later, first_below, are_parents}

-- ---- a table after a store

pub room-set : (n : ℕ) (old new : List ℕ) (i v : ℕ) → Room n old new → i < n → Room n old (set new i v)
room-set n old new i v r h = record {
  enough = simp length-set r.enough;
  size = length-set new i v ∙ r.size;
  past = drop-set-lt n new i v h ∙ r.past;
}

tables-set : (s : Setting) (up_to upTo' : ℕ → ℕ) (w l e : List ℕ) (i x a b : ℕ) → Tables s up_to w l e → i < s.n →
    ((v : ℕ) → (v ≡ i → ⊥) → upTo' v ≡ up_to v) → a ≡ length (later (upTo' i) s.g i) → b ≡ least_or none (later (upTo' i) s.g i) →
    Tables s upTo' (set w i x) (set l i a) (set e i b)
tables-set s up_to upTo' w l e i x a b t h same qa qb = record {
  small = t.small;
  room_work = room-set _ _ w i x t.room_work h;
  room_counts = room-set _ _ l i a t.room_counts h;
  room_parents = room-set _ _ e i b t.room_parents h;
  counted = λ v q. elim (ℕ_discrete v i) [
    | yes r ↦ rw r (get_or-set_same l i a 0 (omega (arith, t.room_counts.enough)) ∙ qa)
    | no ne ↦ get_or-set_other l i v a 0 ne ∙ t.counted v q ∙ ap (λ (m : ℕ). length (later m s.g v)) (sym (same v ne))
  ];
  parented = λ v q. elim (ℕ_discrete v i) [
    | yes r ↦ rw r (get_or-set_same e i b 0 (omega (arith, t.room_parents.enough)) ∙ qb)
    | no ne ↦ get_or-set_other e i v b 0 ne ∙ t.parented v q ∙ ap (λ (m : ℕ). least_or none (later m s.g v)) (sym (same v ne))
  ];
}

-- where the columns' rows are the same, so are the tables
pub tables-same : (s : Setting) (up_to upTo' : ℕ → ℕ) (w w' l e : List ℕ) → Tables s up_to w l e → Room s.n s.work w' →
    ((i : ℕ) → i < s.n → later (up_to i) s.g i ≡ later (upTo' i) s.g i) → Tables s upTo' w' l e
tables-same s up_to upTo' w w' l e t room same = record {
  small = t.small;
  room_work = room;
  room_counts = t.room_counts;
  room_parents = t.room_parents;
  counted = λ i h. t.counted i h ∙ ap length (same i h);
  parented = λ i h. t.parented i h ∙ ap (least_or none) (same i h);
}

-- ---- marks

pub given-marked : (w : List ℕ) (j i : ℕ) → get_or w i 0 ≡ j → given w j i ≡ suc j
given-marked w j i h = rw (eq-eqb (get_or w i 0) j h)

pub given-unmarked : (w : List ℕ) (j i : ℕ) → (get_or w i 0 ≡ j → ⊥) → given w j i ≡ j
given-unmarked w j i h = rw (ne_eqb (get_or w i 0) j h)

module _ (w : List ℕ) (j i : ℕ) (h : i < length w) where
  pub marks : get_or (set w i j) i 0 ≡ j
  marks = get_or-set_same w i j 0 h

  pub still_marked : (v : ℕ) → get_or w v 0 ≡ j → get_or (set w i j) v 0 ≡ j
  still_marked v q = elim (ℕ_discrete v i) [ yes r ↦ rw r marks | no ne ↦ get_or-set_other w i v j 0 ne ∙ q ]

  pub was_marked : (v : ℕ) → (v ≡ i → ⊥) → get_or (set w i j) v 0 ≡ j → get_or w v 0 ≡ j
  was_marked v ne q = sym (get_or-set_other w i v j 0 ne) ∙ q

  pub given_other : (v : ℕ) → (v ≡ i → ⊥) → given (set w i j) j v ≡ given w j v
  given_other v ne = rw (get_or-set_other w i v j 0 ne)

-- ---- a visit

-- the parent that was known, or j, is the least of the rows with j
or_else_lem : (j : ℕ) (xs : List ℕ) → ((x : ℕ) (ys : List ℕ) → xs ≡ x ∷ ys → x < none) → or_else j (least_or none xs) ≡ least_or none (xs ++ (j ∷ []))
or_else_lem j [] h = refl
or_else_lem j (x ∷ xs) h = rw (ne_eqb x none (λ e. omega (arith, h x xs refl)))

module _ (s : Setting) (j i : ℕ) (w l e : List ℕ) (c : Climbing s j i w l e) (lt : i < j) (o : joined s.g i i j ≡ true) (un : get_or w i 0 ≡ j → ⊥) where
  in_n : i < s.n
  in_n = omega (arith, c.below)

  listed : later (suc j) s.g i ≡ later j s.g i ++ (j ∷ [])
  listed = later-joined s.g i j lt o

  counted_before : get_or l i 0 ≡ length (later j s.g i)
  counted_before = c.tables.counted i in_n ∙ ap (λ (m : ℕ). length (later m s.g i)) (given-unmarked w j i un)

  parented_before : get_or e i 0 ≡ least_or none (later j s.g i)
  parented_before = c.tables.parented i in_n ∙ ap (λ (m : ℕ). least_or none (later m s.g i)) (given-unmarked w j i un)

  count_more : get_or l i 0 + 1 ≡ length (later (suc j) s.g i)
  count_more = rw (listed, length-append, counted_before)

  parent_more : or_else j (get_or e i 0) ≡ least_or none (later (suc j) s.g i)
  parent_more =
      rw (listed, parented_before)
      (or_else_lem j (later j s.g i) (λ x xs q. omega (arith, first_below s.g j i x xs lt q, c.below, c.tables.small)))

  pub visitable : Visitable i w l e
  visitable = record {
    room_work = omega (arith, in_n, c.tables.room_work.enough);
    room_counts = omega (arith, in_n, c.tables.room_counts.enough);
    room_parents = omega (arith, in_n, c.tables.room_parents.enough);
    fits = omega (arith, counted_before, length-later s.g j i, c.below, c.tables.small);
    next = omega (arith, lt, c.below, c.tables.small);
  }

  module _ (w' l' e' : List ℕ) (r : ℕ) (v : Visited i j w w' l l' e e' r) where
    parent_is : r ≡ least_or none (later (suc j) s.g i)
    parent_is = v.answer ∙ parent_more

    pub visit_rises : i < r
    visit_rises = rw parent_is ((are_parents s.g (suc j)).later i j lt (omega arith) o)

    pub visit_on : On s.g j r
    visit_on = rw parent_is (parent_joined s.g (suc j) (λ i. least_or none (later (suc j) s.g i)) (are_parents s.g (suc j)) i j lt (omega arith) o)

    pub visit_more : Climbing s j r w' l' e'
    visit_more =
        let inside = visitable.room_work in
        let t = tables-set s (given w j) (given (set w i j) j) w l e i j (get_or l i 0 + 1) r c.tables in_n
        (given_other w j i inside)
        (rw (given-marked (set w i j) j i (marks w j i inside)) count_more)
        (rw (given-marked (set w i j) j i (marks w j i inside)) parent_is) in
        rw (v.marked, v.counted, v.parented) (record {
          below = c.below;
          tables = t;
          here = still_marked w j i inside j c.here;
          row = λ u h q. elim (ℕ_discrete u i) [ yes b ↦ rw b o | no ne ↦ c.row u h (was_marked w j i inside u ne q) ];
          closed = λ u h q. elim (ℕ_discrete u i) [
            | yes b ↦ inr (rw b (get_or-set_same e i r 0 visitable.room_parents))
            | no ne ↦
                rw (get_or-set_other e i u r 0 ne)
                (⊎_elim
                (λ m. inl (still_marked w j i inside (get_or e u 0) m))
                (λ a. inl (rw a (marks w j i inside)))
                (c.closed u h (was_marked w j i inside u ne q)))
          ];
          fresh = λ u m h k b q. elim (ℕ_discrete u i) [
            | yes a ↦ omega (arith, rw (a, marks w j i inside) at q)
            | no ne ↦ c.fresh u m h k b (sym (get_or-set_other w i u j 0 ne) ∙ q)
          ];
        })
