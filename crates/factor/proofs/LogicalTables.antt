-- The logical factor: its rows one after the other, its D column by column, and what they make of the tables. Assumes nothing.
use Prim.Native.Nat.{ℕ, zero, suc, ◌+◌, ◌-◌, ◌<◌, ◌≤◌}
use mathlib.Core.Path.{◌≡◌, refl, sym, ap, ◌∙◌}
use mathlib.Core.List.{List, [], ◌∷◌}
use native.Mathlib.Numerals.{add-one, one-add}
use native.Mathlib.Omega.{arith}
use lib.Ieee.{Float, nan}
use lib.ListN.{length, get_or, take, drop, set, replicate, length-map, length-set}
use lib.Seq.{length-take-le}
use Rattle.desk.specs.Lists.{from, over, sums, total}
use Rattle.desk.proofs.Over.{front, front_more, front_all, get_d_over}
use Rattle.desk.proofs.Upto.{length_from, get_or-from}
use Rattle.csc.specs.Csc.{Csc, column}
use Rattle.csc.proofs.Steady.{Steady, steady, column_pointers, column_rises, column_ends, column_length}
use Rattle.tree.specs.Strike.{entry, rows_of_l, pointers_of_l}
use Rattle.tree.proofs.Entries.{column-entries}
use Rattle.pivot.specs.Pivots.{+0, one}
use Rattle.row.specs.Row.{diagonal}
use Rattle.row.specs.Laid.{laid}
use Rattle.row.specs.Kernels.{Listed, Listable, RowListed}
use Rattle.row.proofs.Laid.{laid_nothing}
use Rattle.row.proofs.OfL.{length-pointers, pointer_last, filled, length-rows_of_l}
use Rattle.row.proofs.Shape.{shape_sized, shape-lists, shape_plain, shape-none}
use Rattle.factor.specs.Factor.{Tables, logical_tables}
use Rattle.factor.specs.Steps.{tables, Prepared, Unlisted, Stored, diagonals_of}
use Rattle.factor.proofs.Runs.{graph}
use Rattle.factor.proofs.Begins.{tested, pointers-written, places-written, starts-free, filled_front}

-- ---- the rows

-- the rows below k are listed, and no mark is set
pub record Below (colptr rowval etree : List ℕ) (k : ℕ) (old li next marks : List ℕ) : Type 0 where
  pub listed : Listed (entry colptr rowval) (length etree) (λ c. k) old li next
  pub unmarked : marks ≡ replicate (length etree) 0

module _ (colptr rowval etree old next₀ marks₀ order₀ : List ℕ) (b : Unlisted colptr rowval etree old next₀ marks₀ order₀) where
  pub rows_start : Below colptr rowval etree 0 old old next₀ marks₀
  rows_start = record { listed = b.listed; unmarked = b.unmarked }

  module _ (k : ℕ) (li next marks order : List ℕ) (so : length order ≡ length order₀) (x : Below colptr rowval etree k old li next marks) where
    long : length order ≡ length etree
    long = so ∙ b.room

    pub rows_listable : k < length etree → {rows : List ℕ} → rows ≡ column colptr rowval k → Listable (entry colptr rowval) old k rows etree li next marks order
    rows_listable h q = record {
      small = rw long b.small;
      below = rw long h;
      column = column-entries (length etree) colptr rowval b.upper k h q;
      tree = rw long b.tree;
      listed = rw long x.listed;
      unmarked = rw long x.unmarked;
    }

    pub rows_more : (li' next' marks' : List ℕ) → RowListed (entry colptr rowval) (length order) k old li' next' marks' →
        Below colptr rowval etree (k + 1) old li' next' marks'
    rows_more li' next' marks' r = rw (add-one k) (record { listed = rw long at r.listed; unmarked = rw long at r.unmarked })

  pub rows-done : (k : ℕ) (li next marks : List ℕ) → Below colptr rowval etree k old li next marks → k ≤ length etree → length etree ≤ k →
      li ≡ over (rows_of_l (length etree) (entry colptr rowval)) old
  unfolding rows_of_l
  rows-done k li next marks x h g =
      let n = length etree in
      let e : k ≡ n = omega arith in
      rw e at x.listed.rows_laid ∙ filled (shape_sized (shape_plain (entry colptr rowval) n (λ c. n) +0)) old b.listed.room

-- ---- D

module _ (n : ℕ) (A : Csc) where
  length_diagonals : 0 < n → length (diagonals_of n A) ≡ n
  length_diagonals h = ap suc (length-map (from 1 (n - 1)) _ ∙ length_from 1 (n - 1)) ∙ omega arith

  diagonal-at : (k : ℕ) → 0 < k → k < n → get_or (diagonals_of n A) k nan ≡ diagonal k (column A.colptr A.rowval k) (column A.colptr A.nzval k) +0
  diagonal-at zero p h = absurd (omega arith)
  diagonal-at (suc j) p h = get_or-from _ nan 1 (n - 1) j (omega arith) ∙ rw (one-add j)

-- the first place is written before the others
first_front : (y : Float) (ys d : List Float) → 0 < length d → set d 0 y ≡ front (y ∷ ys) (set d 0 y) 1
first_front y ys [] h = absurd (omega arith)
first_front y ys (x ∷ d) h = refl

first-over : (y : Float) (ys d : List Float) → over (y ∷ ys) (set d 0 y) ≡ over (y ∷ ys) d
unfolding over
first-over y ys [] = refl
first-over y ys (x ∷ d) = refl

module _ (n : ℕ) (A : Csc) (d₀ : List Float) (b : Stored n A d₀) where
  -- D where the places below k are written
  abbrev pub written : ℕ → List Float
  written k = front (diagonals_of n A) (set d₀ 0 +0) k

  room : n ≤ length (set d₀ 0 +0)
  room = rw (length-set d₀ 0 +0) b.room

  pub diagonals_start : set d₀ 0 +0 ≡ written 1
  diagonals_start = first_front +0 (drop 1 (diagonals_of n A)) d₀ (omega (arith, b.least, b.room))

  S : Steady n (length A.rowval) A.colptr
  S = steady n (length A.rowval) A.colptr b.pointers b.steady

  module _ (k : ℕ) (h : k < n) where
    pub in_pointers : k + 1 < length A.colptr
    in_pointers = column_pointers S h

    pub rises : get_or A.colptr k 0 ≤ get_or A.colptr (k + 1) 0
    rises = column_rises S h

    pub in_rows : get_or A.colptr (k + 1) 0 ≤ length A.rowval
    in_rows = column_ends S h

    pub in_values : get_or A.colptr (k + 1) 0 ≤ length A.nzval
    in_values = omega (arith, in_rows, b.values)

  -- the rows and values of column k, as they are lent
  module _ (k : ℕ) (pos : 0 < k) (h : k < n) {rows : List ℕ} {vals : List Float} (p : rows ≡ column A.colptr A.rowval k) (q : vals ≡ column A.colptr A.nzval k) where
    pub parts_even : length rows ≡ length vals
    parts_even = rw (p, q) (column_length S h A.rowval (omega arith) ∙ sym (column_length S h A.nzval (omega (arith, b.values))))

    pub diagonals_more : (d : List Float) → d ≡ written k → (v : Float) → v ≡ diagonal k rows vals +0 → set d k v ≡ written (k + 1)
    diagonals_more d i v f =
        rw (i, f, p, q, ← diagonal-at n A k pos h)
        (front_more (diagonals_of n A) (set d₀ 0 +0) nan k (omega (arith, length_diagonals n A b.least)) (omega (arith, room)))

  pub diagonals_done : (k : ℕ) → k ≤ n → n ≤ k → (d : List Float) → d ≡ written k → d ≡ over (diagonals_of n A) d₀
  diagonals_done k h g d e = e ∙ front_all (diagonals_of n A) (set d₀ 0 +0) k (omega (arith, length_diagonals n A b.least)) ∙ first-over +0 (drop 1 (diagonals_of n A)) d₀

-- ---- the whole

module _ (A : Csc) (etree lnz : List ℕ) (t : Tables) (next order marks : List ℕ) (b : Prepared A etree lnz t next order marks) where
  abbrev n : ℕ
  n = length etree

  abbrev P : List ℕ
  P = pointers_of_l n (graph A)

  pub logical_stored : Stored n A t.d
  logical_stored = record { least = b.least; pointers = b.pointers; steady = (tested A etree lnz t next order marks b).pointers; values = b.values; room = b.room_pivots }

  module _ (lp' next' marks' : List ℕ) (ep : lp' ≡ over (sums 0 (take n lnz)) t.lp) (en : next' ≡ over (take n lp') next) (em : marks' ≡ over (replicate n 0) marks) where
    pub logical_unlisted : Unlisted A.colptr A.rowval etree t.li (take n next') (take n marks') (take n order)
    logical_unlisted =
        let T = tested A etree lnz t next order marks b in
        record {
          small = omega (arith, b.small);
          upper = T.upper;
          tree = T.tree;
          listed = record {
            free = starts-free A etree lnz t next order marks b (take n next') (places-written A etree lnz t next order marks b lp' next' ep en);
            room = rw (← T.sizes) b.room_rows;
            rows_laid =
                sym (laid_nothing P n t.li)
                ∙ ap (λ (cols : List (List ℕ)). laid P cols t.li) (shape-lists (shape-none (graph A) n (λ c. 0) (λ c h. omega arith)));
          };
          unmarked = filled_front n 0 marks marks' em;
          room = length-take-le n order b.room_order;
        }

    -- the last pointer is how many values there are
    pub logical-many : get_or lp' n 0 ≡ length (rows_of_l n (graph A))
    logical-many =
        rw (pointers-written A etree lnz t next order marks b lp' next' ep en)
        (get_d_over P t.lp 0 n (omega (arith, length-pointers n (graph A))) ∙ pointer_last n (graph A) ∙ sym (length-rows_of_l n (graph A)))

    pub logical-room : get_or lp' n 0 ≤ length t.lx
    logical-room = omega (arith, logical-many, length-rows_of_l n (graph A), b.room_values, ap total (tested A etree lnz t next order marks b).sizes)

    pub logical-done : (li' : List ℕ) (lx' d' dinv' : List Float) (m : ℕ) → li' ≡ over (rows_of_l n (graph A)) t.li → m ≡ get_or lp' n 0 →
        lx' ≡ over (replicate m one) t.lx → d' ≡ over (diagonals_of n A) t.d → dinv' ≡ over (replicate n one) t.dinv →
        tables lp' li' lx' d' dinv' ≡ logical_tables n A t
    unfolding logical_tables
    logical-done li' lx' d' dinv' m ei e ex ed ev = rw (pointers-written A etree lnz t next order marks b lp' next' ep en, ei, ex, e ∙ logical-many, ed, ev)
