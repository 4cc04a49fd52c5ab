-- A row that clears as it goes, beside the row of the definition: the same D[k], rows and values, a y of zeros at the end, and L's columns
-- with row k. Assumes nothing.
use Prim.Native.Nat.{ℕ, suc, ◌<◌}
use mathlib.Core.Path.{◌≡◌, refl, sym, subst}
use borrow.Author.Tests.{eq-eqb}
use mathlib.Core.Bool.{Bool, true, false}
use mathlib.Core.Logic.{inl, inr, ⊎_elim}
use mathlib.Core.List.{List, [], ◌∷◌}
use native.Mathlib.Omega.{arith}
use lib.Ieee.{Float, nan}
use lib.ListN.{length, get_or, set, replicate}
use Rattle.pivot.specs.Pivots.{+0, ◌⊗◌}
use Rattle.csc.specs.Csc.{column, not_upper}
use Rattle.tree.specs.Strike.{entry, joined, later, parents}
use Rattle.tree.specs.Marks.{Column}
use Rattle.tree.proofs.Liu.{Parents}
use Rattle.tree.proofs.Later.{listed-later, listed_below, listed-joined}
use Rattle.tree.proofs.Entries.{column-entries}
use Rattle.row.specs.Row.{Row, visits, spread, diagonal, scattered, eliminate, eliminate_all, row_of}
use Rattle.row.specs.Kernels.{In, up, Climb, Shape, given}
use Rattle.row.proofs.Members.{in_here, in_later, in_at, in_tally}
use Rattle.row.proofs.Paths.{visits_has, table_up}
use Rattle.row.proofs.Order.{climb-below, climb-joined, climb_rest, climb_apart, climb-after, visited_climb}
use Rattle.row.proofs.Clearing.{Cleared, cleared-start, cleared_end, cleared_scatter, cleared_zero}
use Rattle.row.proofs.Shape.{shape-start, shape_step, shape-next}

-- as `eliminate`, and y is +0 at c afterwards
unfoldable pub eliminate_clear : ℕ → List Float → ℕ → Row → Row
eliminate_clear k dinv c w =
    let e = eliminate k dinv c w in
    record { y = set e.y c +0; d = e.d; rows = e.rows; vals = e.vals }

unfoldable pub eliminate_clear_all : ℕ → List Float → List ℕ → Row → Row
eliminate_clear_all k dinv [] w = w
eliminate_clear_all k dinv (c ∷ cs) w = eliminate_clear_all k dinv cs (eliminate_clear k dinv c w)

-- w of the definition and z of the code, where the columns of `rest` are still to come
pub record Along (g : ℕ → ℕ → Bool) (par : ℕ → ℕ) (n k : ℕ) (rest : List ℕ) (w z : Row) : Type 0 where
  pub climb : Climb g par k rest
  pub shape : Shape g n (given rest k) z.rows z.vals
  pub y : Cleared n rest w.y z.y
  pub d : z.d ≡ w.d
  pub rows : z.rows ≡ w.rows
  pub vals : z.vals ≡ w.vals

-- the code's row z is the definition's w, y is all zeros again, and L's columns have their rows up to k
pub record SameRow (g : ℕ → ℕ → Bool) (n k : ℕ) (w z : Row) : Type 0 where
  pub y : z.y ≡ replicate n +0
  pub d : z.d ≡ w.d
  pub rows : z.rows ≡ w.rows
  pub vals : z.vals ≡ w.vals
  pub shape : Shape g n (λ c. suc k) w.rows w.vals

-- the next column
module _ {g : ℕ → ℕ → Bool} {par : ℕ → ℕ} {n k c : ℕ} {rest : List ℕ} {w z : Row} (x : Along g par n k (c ∷ rest) w z) where
  -- it is below k, and k joined to it when it goes
  pub along_below : c < k
  along_below = climb-below x.climb c (in_here c rest)

  pub along_joined : joined g c c k ≡ true
  along_joined = climb-joined x.climb c (in_here c rest)

  -- its own number is the definition's
  pub along_read : get_or z.y c nan ≡ get_or w.y c nan
  along_read = x.y.same c (in_here c rest)

  -- it lists just its rows below k
  pub along_lists : k < n → get_or z.rows c [] ≡ later k g c
  along_lists kn = rw (eq-eqb c c refl) at (x.shape.each c (omega (arith, along_below)))

module _ {g : ℕ → ℕ → Bool} {n : ℕ} {par : ℕ → ℕ} (P : Parents g n par) {k : ℕ} (kn : k < n) where
  module _ {c : ℕ} {rest : List ℕ} {w z : Row} (x : Along g par n k (c ∷ rest) w z) where
    -- the places that it touches are still to come, and inside
    pub along_touched : (q : ℕ) → q < length (get_or z.rows c []) → In (get_or (get_or z.rows c []) q 0) (c ∷ rest) × (get_or (get_or z.rows c []) q 0 < n)
    along_touched =
        let Touched : List ℕ → Type 0 = λ xs. (q : ℕ) → q < length xs → In (get_or xs q 0) (c ∷ rest) × (get_or xs q 0 < n) in
        subst Touched (sym (along_lists x kn)) (λ q l.
        let r = get_or (later k g c) q 0 in
        let t = in_tally r (later k g c) (in_at (later k g c) q l) in
        let b = listed_below g k c r (along_below x) t in
        (in_later r c rest (climb-after P kn x.climb r (listed-later g k c r t) b (listed-joined g k c r t)), omega arith))

    -- after it the rest is to come
    pub along_step : (dinv : List Float) → Along g par n k rest (eliminate k dinv c w) (eliminate_clear k dinv c z)
    unfolding eliminate_clear eliminate
    along_step dinv =
        let v = get_or z.y c nan in
        let rs = get_or z.rows c [] in
        let ls = get_or z.vals c [] in
        record {
          climb = climb_rest x.climb;
          shape = shape_step kn x.climb z.rows z.vals (v ⊗ get_or dinv c nan) x.shape;
          y = rw (← along_read x, ← x.rows, ← x.vals)
              (cleared_zero n c rest (scattered rs ls v w.y) (scattered rs ls v z.y)
              (cleared_scatter n (c ∷ rest) rs ls v w.y z.y x.y along_touched) (climb_apart x.climb) (omega (arith, along_below x)));
          d = rw (← along_read x, x.d);
          rows = rw x.rows;
          vals = rw (← along_read x, x.vals);
        }

  -- after all of them nothing is
  pub along_all : (dinv : List Float) {rest : List ℕ} {w z : Row} → Along g par n k rest w z →
      SameRow g n k (eliminate_all k dinv rest w) (eliminate_clear_all k dinv rest z)
  unfolding eliminate_clear_all eliminate_all
  along_all dinv {rest = []} {w} {z} x = record {
    y = cleared_end n w.y z.y x.y;
    d = x.d;
    rows = x.rows;
    vals = x.vals;
    shape = rw (x.rows, x.vals) at (shape-next x.shape);
  }
  along_all dinv {rest = c ∷ rest} x = along_all dinv {rest = rest} (along_step x dinv)

-- ---- the whole row

-- what a row starts from
abbrev pub started : ℕ → ℕ → List ℕ → List Float → List (List ℕ) → List (List Float) → Row
started n k col_rows col_vals rows vals = record { y = spread k col_rows col_vals (replicate n +0); d = diagonal k col_rows col_vals +0; rows = rows; vals = vals }

-- before the first column
pub along_start : {g : ℕ → ℕ → Bool} {n : ℕ} (etree : List ℕ) → Parents g n (up etree) → (k : ℕ) → k < n → (col_rows : List ℕ) → Column g k col_rows →
    (col_vals : List Float) (rows : List (List ℕ)) (vals : List (List Float)) → Shape g n (λ c. k) rows vals →
    Along g (up etree) n k (visits etree k col_rows []) (started n k col_rows col_vals rows vals) (started n k col_rows col_vals rows vals)
along_start {g} {n} etree P k kn col_rows col col_vals rows vals s = record {
  climb = visited_climb g n etree P k kn col_rows col;
  shape = shape-start g n etree P k kn col_rows col s;
  y = cleared-start n k col_rows col_vals (visits etree k col_rows []) (λ q l.
      ⊎_elim (λ e. inl e) (λ (b, _). inr (visits_has etree k col_rows [] q l b)) (col.on q l));
  d = refl;
  rows = refl;
  vals = refl;
}

-- the code's row k of an upper triangle is the definition's
pub row_same : (n : ℕ) (ptr rowval : List ℕ) → not_upper n ptr rowval ≡ false → (k : ℕ) → k < n → (dinv col_vals : List Float) (rows : List (List ℕ)) (vals : List (List Float)) →
    Shape (entry ptr rowval) n (λ c. k) rows vals →
    SameRow (entry ptr rowval) n k
    (row_of n k (parents n (entry ptr rowval)) dinv (column ptr rowval k) col_vals rows vals)
    (eliminate_clear_all k dinv (visits (parents n (entry ptr rowval)) k (column ptr rowval k) []) (started n k (column ptr rowval k) col_vals rows vals))
unfolding row_of
row_same n ptr rowval upper k kn dinv col_vals rows vals s =
    let g = entry ptr rowval in
    along_all (table_up g n) kn dinv
    (along_start (parents n g) (table_up g n) k kn (column ptr rowval k) (column-entries n ptr rowval upper k kn refl) col_vals rows vals s)
