-- What moves from row to row, and what one row leaves. Assumes nothing.
use Rattle.std.specs.Prelude.{ℕ, suc, ◌+◌, ◌^◌, ◌<◌, ◌≤◌, ◌≡◌, Bool, false, cond, List, ℤ, pos, Result, Ok, Err, Float, length, get_or, set, take, replicate}
use Rattle.csc.specs.Csc.{Csc, bad_pointers, not_upper}
use Rattle.tree.specs.Strike.{entry, parents}
use Rattle.pivot.specs.declared.Regularisation.{Regularisation}
use Rattle.pivot.specs.declared.Pivot.{Pivot}
use Rattle.pivot.specs.Pivots.{pivot_of, is_zero, is_positive, +0}
use Rattle.row.specs.declared.Progress.{Progress}
use Rattle.row.specs.declared.ZeroPivot.{ZeroPivot}
use Rattle.row.specs.Row.{row_of_matrix}
use Rattle.row.specs.Kernels.{Lists, grown, Held}

abbrev pub plus : ℕ → Bool → ℕ
plus k b = cond b (k + 1) k

abbrev pub progress : ℕ → ℕ → ℕ → Progress
progress row inertia shifts = record { row = row; inertia = inertia; shifts = shifts }

abbrev pub zero_pivot : ℕ → ℕ → ZeroPivot
zero_pivot row shifts = record { row = row; shifts = shifts }

-- "Zero refuses; above zero adds one to inertia"; the shift counts. A zero pivot leaves its row, and the shifts up to and including it
unfoldable pub step_of : Pivot → Progress → Result Progress ZeroPivot
step_of p t =
    let shifts = plus t.shifts p.shifted in
    cond (is_zero p.value) (Err (zero_pivot t.row shifts)) (Ok (progress (t.row + 1) (plus t.inertia (is_positive p.value)) shifts))

-- what the pivot of a row leaves: D has it, and Dinv its reciprocal where it is not zero
pub record Pivoted (t : Progress) (p : Pivot) (d₀ d dinv₀ dinv : List Float) (r : Result Progress ZeroPivot) : Type 0 where
  pub answer : r ≡ step_of p t
  pub pivot : d ≡ set d₀ t.row p.value
  pub reciprocal : dinv ≡ cond (is_zero p.value) dinv₀ (set dinv₀ t.row p.reciprocal)

-- the totals count rows before the next one
pub record Counted (t : Progress) : Type 0 where
  pub inertia : t.inertia ≤ t.row
  pub shifts : t.shifts ≤ t.row

-- what `row` asks: a triangle with its parents, L's columns with their rows before this one, y all zeros and no mark
pub record Ready (s : Lists) (t : Progress) (A : Csc) (etree : List ℕ) (dsigns : List ℤ) (lp li next marks order : List ℕ) (lx d dinv y : List Float) : Type 0 where
  pub small : length y < 2 ^ 32
  pub below : t.row < length y
  pub counted : Counted t
  pub pointers : length A.colptr ≡ length y + 1
  pub steady : bad_pointers (length A.rowval) A.colptr ≡ false
  pub values : length A.nzval ≡ length A.rowval
  pub some : 0 < length A.nzval
  pub upper : not_upper (length y) A.colptr A.rowval ≡ false
  pub tree : etree ≡ parents (length y) (entry A.colptr A.rowval)
  pub signs : length dsigns ≡ length y
  pub pivots : length d ≡ length y
  pub reciprocals : length dinv ≡ length y
  pub held : Held (entry A.colptr A.rowval) (length y) (λ c. t.row) s lp li next lx
  pub room : length order ≡ length y
  pub unmarked : marks ≡ replicate (length y) 0
  pub cleared : y ≡ replicate (length y) +0

-- what it leaves, cell by cell: L's columns have their entries of this row, D and Dinv their pivot, y is all zeros again and no mark is set
pub record Stepped (s : Lists) (t : Progress) (n : ℕ) (A : Csc) (etree : List ℕ) (dsigns : List ℤ) (reg : Regularisation)
    (lp li next marks : List ℕ) (lx d₀ d dinv₀ dinv y : List Float) (r : Result Progress ZeroPivot) : Type 0 where
  pub pivoted :
      Pivoted t (pivot_of reg (get_or dsigns t.row (pos 0)) (row_of_matrix n A etree t.row (take t.row dinv₀) s.rows s.vals).d) d₀ d dinv₀ dinv r
  pub held :
      Held (entry A.colptr A.rowval) n (λ c. suc t.row)
      (grown s (row_of_matrix n A etree t.row (take t.row dinv₀) s.rows s.vals)) lp li next lx
  pub unmarked : marks ≡ replicate n 0
  pub cleared : y ≡ replicate n +0
