-- Document 01, "One row, in its order". Assumes nothing.
use Rattle.std.specs.Prelude.{ℕ, zero, suc, cond, not, ◌&&◌, List, [], ◌∷◌, ◌++◌, ltb, eqb, Float, get_or, set, replicate}
use Rattle.std.specs.Float.{nan}
use Rattle.desk.specs.Lists.{any}
use Rattle.csc.specs.Csc.{Csc, column}
use Rattle.tree.specs.Strike.{none}
use Rattle.pivot.specs.Pivots.{◌⊖◌, ◌⊗◌, +0}

-- "Column k's entries go to y, the diagonal one to D[k]; if a place comes twice the last wins."
unfoldable pub spread : ℕ → List ℕ → List Float → List Float → List Float
spread k [] vals y = y
spread k (r ∷ rows) [] y = y
spread k (r ∷ rows) (v ∷ vals) y = spread k rows vals (cond (eqb r k) y (set y r v))

unfoldable pub diagonal : ℕ → List ℕ → List Float → Float → Float
diagonal k [] vals d = d
diagonal k (r ∷ rows) [] d = d
diagonal k (r ∷ rows) (v ∷ vals) d = diagonal k rows vals (cond (eqb r k) v d)

-- "itself, then parents while they are below k and unmarked" (parents rise, so k steps are enough)
unfoldable pub path : List ℕ → ℕ → List ℕ → ℕ → ℕ → List ℕ
path etree k marked zero i = []
path etree k marked (suc steps) i =
    cond (ltb i k && not (any (eqb i) marked)) (i ∷ path etree k marked steps (get_or etree i none)) []

-- "In storage order, each off-diagonal entry whose unknown isn't marked starts a path"; "all are marked. Paths run latest first,
-- each from its start towards the root." What has been put in order is what is marked.
unfoldable pub visits : List ℕ → ℕ → List ℕ → List ℕ → List ℕ
visits etree k [] marked = marked
visits etree k (r ∷ rows) marked = visits etree k rows (path etree k marked k r ++ marked)

-- "for every row r already listed in c, in order, y[r] = y[r] - L[r,c]*v"
unfoldable pub scattered : List ℕ → List Float → Float → List Float → List Float
scattered [] vals v y = y
scattered (r ∷ rows) [] v y = y
scattered (r ∷ rows) (l ∷ vals) v y = scattered rows vals v (set y r (get_or y r nan ⊖ l ⊗ v))

-- what a row works on: y, D[k], and for each column of L the rows and values listed so far
pub record Row : Type 0 where
  pub y : List Float
  pub d : Float
  pub rows : List (List ℕ)
  pub vals : List (List Float)

-- "For a column c: v = y[c]; .. then l = v*Dinv[c] is stored at row k of c, and D[k] = D[k] - v*l."
unfoldable pub eliminate : ℕ → List Float → ℕ → Row → Row
eliminate k dinv c w =
    let v = get_or w.y c nan in
    let l = v ⊗ get_or dinv c nan in
    record {
      y = scattered (get_or w.rows c []) (get_or w.vals c []) v w.y;
      d = w.d ⊖ v ⊗ l;
      rows = set w.rows c (get_or w.rows c [] ++ (k ∷ []));
      vals = set w.vals c (get_or w.vals c [] ++ (l ∷ []));
    }

unfoldable pub eliminate_all : ℕ → List Float → List ℕ → Row → Row
eliminate_all k dinv [] w = w
eliminate_all k dinv (c ∷ cs) w = eliminate_all k dinv cs (eliminate k dinv c w)

-- row k, from column k's rows and values: "For k from 1, y starts as zeros and D[k] as +0."
unfoldable pub row_of : ℕ → ℕ → List ℕ → List Float → List ℕ → List Float → List (List ℕ) → List (List Float) → Row
row_of n k etree dinv col_rows col_vals rows vals =
    eliminate_all k dinv (visits etree k col_rows []) (record {
      y = spread k col_rows col_vals (replicate n +0);
      d = diagonal k col_rows col_vals +0;
      rows = rows;
      vals = vals;
    })

-- row k of a permuted matrix, after the reciprocals of the rows before it: "Pivot 0 starts from the first stored value of the permuted
-- matrix. For k from 1 .." the row
unfoldable pub row_of_matrix : ℕ → Csc → List ℕ → ℕ → List Float → List (List ℕ) → List (List Float) → Row
row_of_matrix n A etree zero dinv rows vals = record { y = []; d = get_or A.nzval 0 nan; rows = rows; vals = vals }
row_of_matrix n A etree (suc j) dinv rows vals =
    row_of n (suc j) etree dinv (column A.colptr A.rowval (suc j)) (column A.colptr A.nzval (suc j)) rows vals
