-- One turn of each loop of a row, where j entries are done and the rest is still to come, and its end. Assumes nothing.
use Prim.Native.Nat.{ℕ, suc, ◌+◌, ◌<◌, ◌≤◌}
use mathlib.Core.Path.{◌≡◌, refl}
use mathlib.Core.Bool.{cond}
use mathlib.Core.Logic.{◌⊎◌, inl, inr}
use mathlib.Core.List.{List, [], ◌∷◌, ◌++◌}
use native.Mathlib.Numerals.{add-one}
use native.Mathlib.Omega.{arith}
use lib.Dec.{eqb}
use lib.Ieee.{Float, nan}
use lib.ListN.{length, get_or, set, drop, drop_of_length-le}
use lib.Seq.{drop-cons}
use Rattle.pivot.specs.Pivots.{◌⊖◌, ◌⊗◌}
use Rattle.row.specs.Row.{Row, path, visits, spread, diagonal, scattered}
use Rattle.row.proofs.Along.{eliminate_clear, eliminate_clear_all}

-- each row is a place of a table n long
abbrev pub Inside : ℕ → List ℕ → Type 0
Inside n rows = (q : ℕ) → q < length rows → get_or rows q 0 < n

-- no entry is left of rows with their values
abbrev pub Over : List ℕ → List Float → Type 0
Over rows vals = (rows ≡ []) ⊎ (vals ≡ [])

-- a column's entry may start a path
module _ (etree : List ℕ) (k : ℕ) (rows marked : List ℕ) (j : ℕ) where
  pub visits_more : j < length rows → {r : ℕ} → r ≡ get_or rows j 0 →
      visits etree k (drop (j + 1) rows) (path etree k marked k r ++ marked) ≡ visits etree k (drop j rows) marked
  unfolding visits
  visits_more h q = rw (add-one j, q, drop-cons rows j 0 h)

  pub visits-done : length rows ≤ j → marked ≡ visits etree k (drop j rows) marked
  unfolding visits
  visits-done h = rw (drop_of_length-le rows {i = j} h)

-- the first of the entries that are left, of row r and value v
module _ {rows rest : List ℕ} {r : ℕ} (e : rows ≡ r ∷ rest) where
  module _ {n : ℕ} (inside : Inside n rows) where
    pub rest_inside : Inside n rest
    rest_inside q h = (rw e at (inside (suc q))) (omega arith)

  module _ {vals left : List Float} {v : Float} (f : vals ≡ v ∷ left) where
    -- it goes to y, but the diagonal's to d
    pub spread_more : (k : ℕ) (y : List Float) → spread k rest left (cond (eqb r k) y (set y r v)) ≡ spread k rows vals y
    unfolding spread
    spread_more k y = rw (e, f)

    pub diagonal_more : (k : ℕ) (d : Float) → diagonal k rest left (cond (eqb r k) v d) ≡ diagonal k rows vals d
    unfolding diagonal
    diagonal_more k d = rw (e, f)

    -- a row that a column of L lists
    pub scattered_more : (z : Float) (y : List Float) → scattered rest left z (set y r (get_or y r nan ⊖ v ⊗ z)) ≡ scattered rows vals z y
    unfolding scattered
    scattered_more z y = rw (e, f)

-- none is left
pub spread-done : (k : ℕ) (rows : List ℕ) (vals y : List Float) → Over rows vals → y ≡ spread k rows vals y
unfolding spread
spread-done k [] vals y h = refl
spread-done k (r ∷ rows) [] y h = refl
spread-done k (r ∷ rows) (v ∷ vals) y (inl h) = cc
spread-done k (r ∷ rows) (v ∷ vals) y (inr h) = cc

pub diagonal-done : (k : ℕ) (rows : List ℕ) (vals : List Float) (d : Float) → Over rows vals → d ≡ diagonal k rows vals d
unfolding diagonal
diagonal-done k [] vals d h = refl
diagonal-done k (r ∷ rows) [] d h = refl
diagonal-done k (r ∷ rows) (v ∷ vals) d (inl h) = cc
diagonal-done k (r ∷ rows) (v ∷ vals) d (inr h) = cc

pub scattered-done : (rows : List ℕ) (vals : List Float) (v : Float) (y : List Float) → Over rows vals → y ≡ scattered rows vals v y
unfolding scattered
scattered-done [] vals v y h = refl
scattered-done (r ∷ rows) [] v y h = refl
scattered-done (r ∷ rows) (w ∷ vals) v y (inl h) = cc
scattered-done (r ∷ rows) (w ∷ vals) v y (inr h) = cc

-- the columns from q on, of which c is the first
pub column-at : (order : List ℕ) {q c : ℕ} → q < length order → c ≡ get_or order q 0 → drop q order ≡ c ∷ drop (q + 1) order
column-at order {q} h e = rw (e, add-one) (drop-cons order q 0 h)

-- the columns, of which c is the next
module _ (k : ℕ) (dinv : List Float) (w : Row) where
  pub clear_none : eliminate_clear_all k dinv [] w ≡ w
  unfolding eliminate_clear_all
  clear_none = refl

  pub clear_next : (c : ℕ) (rest : List ℕ) → eliminate_clear_all k dinv (c ∷ rest) w ≡ eliminate_clear_all k dinv rest (eliminate_clear k dinv c w)
  unfolding eliminate_clear_all
  clear_next c rest = refl
