-- A whole row: its entries spread, its columns put in order, and then eliminated. Assumes nothing.
use Prim.Native.Nat.{ℕ, zero, suc, ◌<◌, ◌+◌, ◌≤◌}
use mathlib.Core.Path.{◌≡◌, refl, sym, ap, ◌∙◌}
use mathlib.Core.Bool.{Bool, cond}
use mathlib.Core.Logic.{⊎_elim}
use mathlib.Core.List.{List, [], ◌∷◌}
use native.Mathlib.Omega.{arith}
use borrow.Author.Tests.{ne_eqb}
use lib.Dec.{eqb}
use lib.IntN.{ℤ, pos}
use lib.Ieee.{Float, nan}
use lib.ListN.{length, get_or, take, length-replicate}
use Rattle.std.specs.Prelude.{Result}
use Rattle.csc.specs.Csc.{Csc, column}
use Rattle.csc.proofs.Steady.{Steady, steady, column_pointers, column_rises, column_ends, column_length}
use Rattle.tree.specs.Strike.{entry, parents}
use Rattle.tree.proofs.Entries.{column-entries}
use Rattle.pivot.specs.declared.Regularisation.{Regularisation}
use Rattle.pivot.specs.declared.Pivot.{Pivot}
use Rattle.pivot.specs.Pivots.{pivot_of, +0}
use Rattle.row.specs.declared.Progress.{Progress}
use Rattle.row.specs.declared.ZeroPivot.{ZeroPivot}
use Rattle.row.specs.Row.{Row, path, visits, spread, diagonal, eliminate_all, row_of, row_of_matrix}
use Rattle.row.specs.Kernels.{Reachable, Reached, Lists, Setting, Ordered, Rowed, Rowable}
use Rattle.row.specs.Steps.{Pivoted, Ready, Stepped}
use Rattle.row.proofs.Clearing.{length-spread}

-- the row's column in its graph
abbrev pub setting : (ℕ → ℕ → Bool) → Lists → List ℕ → List Float → Setting
setting g s rows vals = record { g = g; col_rows = rows; col_vals = vals; lists = s }

module _ (g : ℕ → ℕ → Bool) (s : Lists) (k : ℕ) (rows : List ℕ) (vals : List Float) (etree lp li next marks order : List ℕ) (lx dinv y : List Float)
    (b : Rowable g s k rows vals etree lp li next marks order lx dinv y) where
  pub spreadable : (q : ℕ) → q < length rows → get_or rows q 0 < length y
  spreadable q h = ⊎_elim (λ e. omega (arith, b.below)) (λ (l, _). omega (arith, b.below)) (b.column.on q h)

  pub reachable : Reachable g k rows etree marks order
  reachable = record {
    small = omega (arith, b.room, b.small);
    below = omega (arith, b.room, b.below);
    tree = rw b.room b.tree;
    column = b.column;
    clear = rw b.room b.unmarked;
  }

  module _ (y' : List Float) (d : Float) (marks' order' : List ℕ) (top : ℕ) (ey : y' ≡ spread k rows vals y) (ed : d ≡ diagonal k rows vals +0)
      (r : Reached k rows etree marks' order' top) (sm : length marks' ≡ length marks) where
    long : length y' ≡ length y
    long = ap length ey ∙ length-spread k rows vals y

    pub row-ordered : Ordered (setting g s rows vals) k top d order' lp li next marks' lx dinv y'
    row-ordered = record {
      small = omega (arith, long, b.small);
      below = omega (arith, long, b.below);
      column = b.column;
      ordered = rw (long, ← b.tree) r.ordered;
      inside = r.inside;
      marked = rw r.ordered r.marked;
      size_marks = sm ∙ ap length b.unmarked ∙ length-replicate (length y) 0 ∙ sym long;
      reciprocals = b.reciprocals;
      held = rw long b.held;
      entries = rw (long, ← b.cleared) ey;
      start = ed;
    }

    pub row_done : (li' next' marks'' : List ℕ) (lx' y'' : List Float) (x : Float) →
        Rowed g (length y') k s (row_of (length y') k (parents (length y') g) (take k dinv) rows vals s.rows s.vals) lp li' next' marks'' lx' y'' x →
        Rowed g (length y) k s (row_of (length y) k etree (take k dinv) rows vals s.rows s.vals) lp li' next' marks'' lx' y'' x
    row_done li' next' marks'' lx' y'' x = rw (b.tree, long) (λ h. h)

-- ---- row k of the matrix

-- row 0 has no column
none_first : (etree rows marked : List ℕ) → visits etree 0 rows marked ≡ marked
unfolding visits path
none_first etree [] marked = refl
none_first etree (r ∷ rows) marked = none_first etree rows marked

module _ (n : ℕ) (A : Csc) (etree : List ℕ) (dinv : List Float) (rows : List (List ℕ)) (vals : List (List Float)) where
  -- row k by its column, whatever k is
  abbrev pub column_row : ℕ → Row
  column_row k = row_of n k etree dinv (column A.colptr A.rowval k) (column A.colptr A.nzval k) rows vals

  -- has the matrix's lists, and its D[k] but for the first row
  matrix-d : (k : ℕ) → (row_of_matrix n A etree k dinv rows vals).d ≡ cond (eqb k 0) (get_or A.nzval 0 nan) (column_row k).d
  unfolding row_of_matrix
  matrix-d zero = refl
  matrix-d (suc j) = rw (ne_eqb (suc j) 0 (λ e. omega arith))

  matrix-rows : (k : ℕ) → (column_row k).rows ≡ (row_of_matrix n A etree k dinv rows vals).rows
  unfolding row_of_matrix row_of eliminate_all
  matrix-rows zero = rw (none_first etree (column A.colptr A.rowval 0) [])
  matrix-rows (suc j) = refl

  matrix-vals : (k : ℕ) → (column_row k).vals ≡ (row_of_matrix n A etree k dinv rows vals).vals
  unfolding row_of_matrix row_of eliminate_all
  matrix-vals zero = rw (none_first etree (column A.colptr A.rowval 0) [])
  matrix-vals (suc j) = refl

module _ (s : Lists) (t : Progress) (A : Csc) (etree : List ℕ) (dsigns : List ℤ) (lp li next marks order : List ℕ) (lx d dinv y : List Float)
    (b : Ready s t A etree dsigns lp li next marks order lx d dinv y) where
  S : Steady (length y) (length A.rowval) A.colptr
  S = steady (length y) (length A.rowval) A.colptr b.pointers b.steady

  pub in_pointers : t.row + 1 < length A.colptr
  in_pointers = column_pointers S b.below

  pub rises : get_or A.colptr t.row 0 ≤ get_or A.colptr (t.row + 1) 0
  rises = column_rises S b.below

  pub in_rows : get_or A.colptr (t.row + 1) 0 ≤ length A.rowval
  in_rows = column_ends S b.below

  pub in_values : get_or A.colptr (t.row + 1) 0 ≤ length A.nzval
  in_values = omega (arith, in_rows, b.values)

  -- the rows and values of column k, as they are lent
  module _ {rows : List ℕ} {vals : List Float} (rows_are : rows ≡ column A.colptr A.rowval t.row) (vals_are : vals ≡ column A.colptr A.nzval t.row) where
    pub row_rowable : Rowable (entry A.colptr A.rowval) s t.row rows vals etree lp li next marks order lx dinv y
    row_rowable = record {
      small = b.small;
      below = b.below;
      column = column-entries (length y) A.colptr A.rowval b.upper t.row b.below rows_are;
      values = rw (rows_are, vals_are) (column_length S b.below A.rowval (omega arith) ∙ sym (column_length S b.below A.nzval (omega (arith, b.values))));
      tree = b.tree;
      held = b.held;
      reciprocals = omega (arith, b.below, b.reciprocals);
      room = b.room;
      unmarked = b.unmarked;
      cleared = b.cleared;
    }

    module _ (li' next' marks' : List ℕ) (lx' d' dinv' y' : List Float) (x f : Float) (reg : Regularisation) (v : Pivot) (r : Result Progress ZeroPivot)
        (w : Rowed (entry A.colptr A.rowval) (length y) t.row s (row_of (length y) t.row etree (take t.row dinv) rows vals s.rows s.vals) lp li' next' marks' lx' y' x)
        (ef : f ≡ cond (eqb t.row 0) (get_or A.nzval 0 nan) x) (ev : v ≡ pivot_of reg (get_or dsigns t.row (pos 0)) f) (pv : Pivoted t v d d' dinv dinv' r) where
      pub row_stepped : Stepped s t (length y) A etree dsigns reg lp li' next' marks' lx' d d' dinv dinv' y' r
      row_stepped =
          let k = t.row in
          let R = rw (rows_are, vals_are) at w in
          let start : f ≡ (row_of_matrix (length y) A etree k (take k dinv) s.rows s.vals).d =
          ef ∙ rw R.diagonal (sym (matrix-d (length y) A etree (take k dinv) s.rows s.vals k)) in
          record {
            pivoted = rw (← start, ← ev) pv;
            held = rw (matrix-rows (length y) A etree (take k dinv) s.rows s.vals k, matrix-vals (length y) A etree (take k dinv) s.rows s.vals k) at R.held;
            unmarked = R.unmarked;
            cleared = R.cleared;
          }
