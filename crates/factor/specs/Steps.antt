-- What the steps of the factor ask and leave. Assumes nothing.
use Rattle.std.specs.Prelude.{ℕ, ◌+◌, ◌-◌, ◌^◌, ◌<◌, ◌≤◌, ◌≡◌, cond, false, List, ◌∷◌, ◌++◌, map, ℤ, Result, Ok, Err, Float, length, replicate}
use Rattle.desk.specs.Desk.{max_n}
use Rattle.desk.specs.Lists.{from, upto, over, total}
use Rattle.csc.specs.Csc.{Csc, column, bad_pointers, not_upper}
use Rattle.tree.specs.Strike.{entry, parents, pointers_of_l}
use Rattle.pivot.specs.declared.Regularisation.{Regularisation}
use Rattle.pivot.specs.Pivots.{+0}
use Rattle.row.specs.declared.Progress.{Progress}
use Rattle.row.specs.declared.ZeroPivot.{ZeroPivot}
use Rattle.row.specs.Laid.{laid}
use Rattle.row.specs.Row.{diagonal}
use Rattle.row.specs.Kernels.{Lists, Listed}
use Rattle.row.specs.Steps.{progress, zero_pivot, Ready}
use Rattle.factor.specs.Factor.{Work, Tables, begun, run, tables_of, spoiled_factor}

-- the pointers of a matrix of order n, and scratch for its tree
pub record Testable (n : ℕ) (colptr work counts parents : List ℕ) : Type 0 where
  pub small : n < 2 ^ 32
  pub pointers : length colptr ≡ n + 1
  pub room_work : n ≤ length work
  pub room_counts : n ≤ length counts
  pub room_parents : n ≤ length parents

-- the lists of a run over what L's tables held
abbrev pub lists_of : Work → List ℕ → List Float → Lists
lists_of w li lx = record { rows = w.rows; vals = w.vals; li = li; lx = lx }

-- the run of all rows
abbrev pub whole : ℕ → Csc → List ℕ → List ℤ → Regularisation → Work
whole n A etree dsigns reg = run n A etree dsigns reg (upto n) (begun n)

-- what it came to
abbrev pub finished : ℕ → Work → Result Progress ZeroPivot
finished n w = cond w.stopped (Err (zero_pivot (length w.d - 1) w.shifts)) (Ok (progress n w.inertia w.shifts))

-- what `rows` asks: all is ready for the first row, and D is all zeros
pub record Runnable (A : Csc) (etree : List ℕ) (dsigns : List ℤ) (lp li next marks order : List ℕ) (lx d dinv y : List Float) : Type 0 where
  pub ready : Ready (lists_of (begun (length y)) li lx) (progress 0 0 0) A etree dsigns lp li next marks order lx d dinv y
  pub zeros : d ≡ replicate (length y) +0

-- what it leaves
pub record Ran (n : ℕ) (A : Csc) (w : Work) (li₀ li : List ℕ) (lx₀ lx d dinv₀ dinv : List Float) (r : Result Progress ZeroPivot) : Type 0 where
  pub answer : r ≡ finished n w
  pub rows : li ≡ laid (pointers_of_l n (entry A.colptr A.rowval)) w.rows li₀
  pub values : lx ≡ laid (pointers_of_l n (entry A.colptr A.rowval)) w.vals lx₀
  pub pivots : d ≡ w.d ++ replicate (n - length w.d) +0
  pub reciprocals : dinv ≡ over w.dinv dinv₀

abbrev pub tables : List ℕ → List ℕ → List Float → List Float → List Float → Tables
tables lp li lx d dinv = record { lp = lp; li = li; lx = lx; d = d; dinv = dinv }

-- what `numeric` and `logical` ask: tables that passed the tests, and room
pub record Prepared (A : Csc) (etree lnz : List ℕ) (t : Tables) (next order marks : List ℕ) : Type 0 where
  pub least : 0 < length etree
  pub small : length etree ≤ max_n
  pub pointers : length A.colptr ≡ length etree + 1
  pub values : length A.nzval ≡ length A.rowval
  pub some : 0 < length A.rowval
  pub sound : spoiled_factor (length etree) (length A.rowval) A etree lnz ≡ false
  pub room_pointers : length etree + 1 ≤ length t.lp
  pub room_rows : total lnz ≤ length t.li
  pub room_values : total lnz ≤ length t.lx
  pub room_pivots : length etree ≤ length t.d
  pub room_reciprocals : length etree ≤ length t.dinv
  pub room_next : length etree ≤ length next
  pub room_order : length etree ≤ length order
  pub room_marks : length etree ≤ length marks

-- what `numeric` asks besides
pub record Signed (n : ℕ) (dsigns : List ℤ) (y : List Float) : Type 0 where
  pub signs : length dsigns ≡ n
  pub room : n ≤ length y

-- what it leaves
pub record Factored (n : ℕ) (A : Csc) (w : Work) (t₀ t : Tables) (r : Result Progress ZeroPivot) : Type 0 where
  pub answer : r ≡ finished n w
  pub written : t ≡ tables_of n A w t₀

-- ---- the logical factor

-- what `list_rows` asks: the tree of an upper triangle, no row listed yet, and no mark
pub record Unlisted (colptr rowval etree li next marks order : List ℕ) : Type 0 where
  pub small : length etree < 2 ^ 32
  pub upper : not_upper (length etree) colptr rowval ≡ false
  pub tree : etree ≡ parents (length etree) (entry colptr rowval)
  pub listed : Listed (entry colptr rowval) (length etree) (λ c. 0) li li next
  pub unmarked : marks ≡ replicate (length etree) 0
  pub room : length order ≡ length etree

-- what `diagonals` asks, and D as it writes it
pub record Stored (n : ℕ) (A : Csc) (d : List Float) : Type 0 where
  pub least : 0 < n
  pub pointers : length A.colptr ≡ n + 1
  pub steady : bad_pointers (length A.rowval) A.colptr ≡ false
  pub values : length A.nzval ≡ length A.rowval
  pub room : n ≤ length d

abbrev pub diagonals_of : ℕ → Csc → List Float
diagonals_of n A = +0 ∷ map (λ k. diagonal k (column A.colptr A.rowval k) (column A.colptr A.nzval k) +0) (from 1 (n - 1))
