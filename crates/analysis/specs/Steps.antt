-- What the steps of the analysis ask and promise. Assumes nothing.
use Rattle.std.specs.Prelude.{ℕ, ◌+◌, ◌≤◌, ◌≡◌, true, false, ◌⊎◌, List, [], Ok, ℤ, length}
use Rattle.desk.specs.Lists.{over, total}
use Rattle.desk.specs.Desk.{Verdict, first}
use Rattle.csc.specs.Csc.{Csc, malformed}
use Rattle.order.specs.Order.{is_ordering, inverse}
use Rattle.reorder.specs.Reorder.{reordered}
use Rattle.tree.specs.Strike.{counts}
use Rattle.analysis.specs.Analysis.{Written, AnalysisLent, analysis_lent, analysis_refusals, joins, analysed_tables}

-- the verdict of the analysis's refusals, and the inverse ordering where it is accepted
pub record Judged (l : AnalysisLent) (r : Verdict) (iperm₀ iperm : List ℕ) : Type 0 where
  pub verdict : r ≡ first (analysis_refusals l)
  pub inverted : r ≡ Ok tt → iperm ≡ over (inverse l.perm) iperm₀

-- an ordering, signs for each of it or none, and room for them in the new order
pub record SignsFit (perm : List ℕ) (signs dsigns : List ℤ) : Type 0 where
  pub ordering : is_ordering perm ≡ true
  pub signed : (length signs ≡ 0) ⊎ (length signs ≡ length perm)
  pub room : length perm ≤ length dsigns

-- what an accepted analysis asks: the inverse ordering, and what the refusals have ruled out
pub record Computable (A : Csc) (perm : List ℕ) (signs : List ℤ) (out : Written) (iperm next work : List ℕ) : Type 0 where
  pub small : length perm ≤ 2048
  pub entries : length A.rowval ≤ 65536
  pub formed : malformed (length perm) A.colptr A.rowval ≡ false
  pub pointers : length A.colptr ≡ length perm + 1
  pub values : length A.nzval ≡ length A.rowval
  pub ordering : is_ordering perm ≡ true
  pub inverted : iperm ≡ inverse perm
  pub signed : (length signs ≡ 0) ⊎ (length signs ≡ length perm)
  pub room_pointers : length perm + 1 ≤ length out.P.colptr
  pub room_rows : length A.rowval ≤ length out.P.rowval
  pub room_values : length A.rowval ≤ length out.P.nzval
  pub room_map : length A.rowval ≤ length out.map
  pub room_parents : length perm ≤ length out.etree
  pub room_counts : length perm ≤ length out.lnz
  pub room_signs : length perm ≤ length out.dsigns
  pub room_next : length perm ≤ length next
  pub room_work : length perm ≤ length work

-- what it leaves: the tables, and the length of L
pub record Computed (A : Csc) (perm : List ℕ) (signs : List ℤ) (out₀ out : Written) (r : ℕ) : Type 0 where
  pub tables : out ≡ analysed_tables (analysis_lent 0 (length perm) A perm signs out₀ [])
  pub sum : r ≡ total (counts (length perm) (joins (reordered (length perm) (inverse perm) A)))
