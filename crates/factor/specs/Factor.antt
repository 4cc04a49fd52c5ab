-- Document 01, piece 5: the whole factor, numeric and logical, and when a factor's tables are spoiled. Assumes nothing.
use Rattle.std.specs.Prelude.{ℕ, zero, suc, ◌-◌, Bool, true, false, cond, not, ◌&&◌, ◌||◌, List, [], ◌∷◌, ◌++◌, map, eqb, ℤ, pos, Float, length, get_or, replicate}
use Rattle.std.specs.Float.{nan}
use Rattle.desk.specs.Lists.{from, over}
use Rattle.csc.specs.Csc.{Csc, column, bad_pointers, not_upper}
use Rattle.tree.specs.Strike.{entry, parents, counts, rows_of_l, pointers_of_l}
use Rattle.pivot.specs.declared.Regularisation.{Regularisation}
use Rattle.pivot.specs.Pivots.{pivot_of, is_zero, is_positive, +0, one}
use Rattle.row.specs.Laid.{laid}
use Rattle.row.specs.Row.{Row, row_of, diagonal}
use Rattle.row.specs.Steps.{plus}

-- the factor after its first rows: for each column of L its rows and values, the pivots, their reciprocals, and the totals
pub record Work : Type 0 where
  pub rows : List (List ℕ)
  pub vals : List (List Float)
  pub d : List Float
  pub dinv : List Float
  pub inertia : ℕ
  pub shifts : ℕ
  pub stopped : Bool

unfoldable pub begun : ℕ → Work
begun n = record { rows = replicate n []; vals = replicate n []; d = []; dinv = []; inertia = 0; shifts = 0; stopped = false }

-- "Pivot 0 starts from the first stored value of the permuted matrix. For k from 1 .." the row
unfoldable pub row_at : ℕ → Csc → List ℕ → ℕ → Work → Row
row_at n A etree zero w = record { y = []; d = get_or A.nzval 0 nan; rows = w.rows; vals = w.vals }
row_at n A etree (suc j) w =
    row_of n (suc j) etree w.dinv (column A.colptr A.rowval (suc j)) (column A.colptr A.nzval (suc j)) w.rows w.vals

-- the pivot of row k: "Zero refuses; above zero adds one to inertia"; what stays of D and Dinv where it is zero
unfoldable pub pivoted : Regularisation → ℤ → Row → Work → Work
pivoted reg sign r w =
    let p = pivot_of reg sign r.d in
    record {
      rows = r.rows;
      vals = r.vals;
      d = w.d ++ (p.value ∷ []);
      dinv = cond (is_zero p.value) w.dinv (w.dinv ++ (p.reciprocal ∷ []));
      inertia = plus w.inertia (is_positive p.value);
      shifts = plus w.shifts p.shifted;
      stopped = is_zero p.value;
    }

-- the rows one after the other, up to a zero pivot
unfoldable pub run : ℕ → Csc → List ℕ → List ℤ → Regularisation → List ℕ → Work → Work
run n A etree dsigns reg [] w = w
run n A etree dsigns reg (k ∷ ks) w =
    run n A etree dsigns reg ks (cond w.stopped w (pivoted reg (get_or dsigns k (pos 0)) (row_at n A etree k w) w))

-- L, D and Dinv as lent
pub record Tables : Type 0 where
  pub lp : List ℕ
  pub li : List ℕ
  pub lx : List Float
  pub d : List Float
  pub dinv : List Float

-- The tables after a numeric factor. Where it stopped at row k: "L's pointers are complete; entries of rows 0..k are stored, all
-- other places of L kept; D holds pivots before k, the zero at k, +0 after; Dinv is new before k and kept from k on."
unfoldable pub tables_of : ℕ → Csc → Work → Tables → Tables
tables_of n A w t =
    let lp = pointers_of_l n (entry A.colptr A.rowval) in
    record {
      lp = over lp t.lp;
      li = laid lp w.rows t.li;
      lx = laid lp w.vals t.lx;
      d = over (w.d ++ replicate (n - length w.d) +0) t.d;
      dinv = over w.dinv t.dinv;
    }

-- "Logical: L's values and Dinv become 1 over their needed part; D[0] = +0; later D[k] is the stored diagonal value, +0 if none"
unfoldable pub logical_tables : ℕ → Csc → Tables → Tables
logical_tables n A t =
    let g = entry A.colptr A.rowval in
    record {
      lp = over (pointers_of_l n g) t.lp;
      li = over (rows_of_l n g) t.li;
      lx = over (replicate (length (rows_of_l n g)) one) t.lx;
      d = over (+0 ∷ map (λ k. diagonal k (column A.colptr A.rowval k) (column A.colptr A.nzval k) +0) (from 1 (n - 1))) t.d;
      dinv = over (replicate n one) t.dinv;
    }

-- two lists of numbers are the same
unfoldable pub same : List ℕ → List ℕ → Bool
same [] [] = true
same [] (y ∷ ys) = false
same (x ∷ xs) [] = false
same (x ∷ xs) (y ∷ ys) = eqb x y && same xs ys

-- "Factor: permuted pointers don't start at 0, fall, or don't end at m; a row exceeds its column; or parents or counts aren't those
-- of this pattern."
unfoldable pub spoiled_factor : ℕ → ℕ → Csc → List ℕ → List ℕ → Bool
spoiled_factor n m A etree lnz =
    let g = entry A.colptr A.rowval in
    bad_pointers m A.colptr || not_upper n A.colptr A.rowval || not (same etree (parents n g)) || not (same lnz (counts n g))
