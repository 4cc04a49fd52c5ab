-- Document 01: factor and refactor. Assumes nothing.
use Rattle.std.specs.Prelude.{ℕ, ◌+◌, ◌-◌, Bool, false, cond, ◌||◌, List, [], Ok, Err, ℤ, Float, length}
use Rattle.desk.specs.Lists.{upto, any, isnt, short, total}
use Rattle.desk.specs.Desk.{Line, ◌⇒◌⨾◌, first, bad_size_later, bad_sign}
use Rattle.desk.specs.declared.Refusal.TheVariants.{NotReady, BadSize, BadLength, BadSign, Spoiled, NoRoom, ZeroPivot}
use Rattle.csc.specs.Csc.{Csc}
use Rattle.pivot.specs.declared.Regularisation.{Regularisation}
use Rattle.factor.specs.Factor.{Work, Tables, begun, run, tables_of, logical_tables, spoiled_factor}
use Rattle.qdldl.specs.declared.Phase.TheVariants.{Logical, Numeric, Failed}
use Rattle.qdldl.specs.declared.Status.{Status}
use Rattle.qdldl.specs.Calls.{Answer, refuse, Outcome, outcome, settled, status, is_empty}

-- the permuted triangle, parents, counts and permuted signs; L, D and Dinv; scratch of all three kinds
pub record FactorLent : Type 0 where
  pub P : Csc
  pub etree : List ℕ
  pub lnz : List ℕ
  pub dsigns : List ℤ
  pub out : Tables
  pub iwork : List (List ℕ)
  pub bwork : List ℕ
  pub fwork : List Float

-- 4: "signs .. not n in factor, .. another table that is only read not its exact length .., or a written table or scratch too
-- short"; "L's pointers are judged as a written table, its rows and values by 13 alone"
unfoldable pub bad_factor_lengths : ℕ → ℕ → FactorLent → Bool
bad_factor_lengths n m l =
    isnt (n + 1) l.P.colptr || isnt m l.P.rowval || isnt m l.P.nzval || isnt n l.etree || isnt n l.lnz ||
    isnt n l.dsigns || short (n + 1) l.out.lp || short n l.out.d || short n l.out.dinv || any (short n) l.iwork ||
    short n l.bwork || short n l.fwork

-- "factor and refactor 1, 3, 4, 10, 11, 13, 14"; 13: "L rows or values shorter than the counts' sum; the sum is returned"
unfoldable pub factor_refusals : Status → FactorLent → List Line
factor_refusals s l =
    is_empty s.phase ⇒ NotReady ⨾
    bad_size_later s.n s.m ⇒ BadSize ⨾
    bad_factor_lengths s.n s.m l ⇒ BadLength ⨾
    any bad_sign l.dsigns ⇒ BadSign ⨾
    spoiled_factor s.n s.m l.P l.etree l.lnz ⇒ Spoiled ⨾
    short (total l.lnz) l.out.li || short (total l.lnz) l.out.lx ⇒ NoRoom (total l.lnz) ⨾
    []

-- "14: a pivot is +0 or -0 after any shift; its row is returned. .. Status is Failed, inertia 0, shifts those up to and including
-- row k"; "A factor sets these three anew."
unfoldable pub numeric_answer : Status → ℕ → Work → Answer
numeric_answer s nnzl w =
    cond w.stopped
    (Err (refuse (ZeroPivot (length w.d - 1)) (status Failed s.n s.m nnzl 0 w.shifts)))
    (Ok (status Numeric s.n s.m nnzl w.inertia w.shifts))

unfoldable pub numeric : Status → Regularisation → FactorLent → Outcome Tables
numeric s reg l =
    let w = run s.n l.P l.etree l.dsigns reg (upto s.n) (begun s.n) in
    outcome (numeric_answer s (total l.lnz) w) (tables_of s.n l.P w l.out)

-- "Logical: .. inertia and shifts 0; .. and there is no ZeroPivot"
unfoldable pub logical : Status → FactorLent → Outcome Tables
logical s l =
    outcome (Ok (status Logical s.n s.m (total l.lnz) 0 0)) (logical_tables s.n l.P l.out)

unfoldable pub factor : Bool → Status → Regularisation → FactorLent → Outcome Tables
factor onlyLogical s reg l =
    settled (first (factor_refusals s l)) s l.out (cond onlyLogical (logical s l) (numeric s reg l))

-- "Refactor is always numeric."
unfoldable pub refactor : Status → Regularisation → FactorLent → Outcome Tables
refactor s reg l = factor false s reg l
