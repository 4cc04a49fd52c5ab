-- Demand 3 on the lists of L: after a successful factor, numeric or logical, column i of L lists row k exactly when k is later than i and
-- joined to it when i goes, once each, rows rising. The joins are those of the triangle lent. Assumes nothing.
use Prim.Native.Nat.{ℕ, ◌<◌, ◌≤◌}
use mathlib.Core.Path.{◌≡◌, refl}
use mathlib.Core.Bool.{Bool, true, false, cond}
use mathlib.Core.List.{List}
use native.Mathlib.Omega.{arith}
use lib.ListN.{length}
use Rattle.desk.specs.Lists.{tally, total, short, upto}
use Rattle.desk.specs.Desk.{Verdict, first}
use Rattle.desk.specs.declared.Refusal.{Refusal}
use Rattle.std.specs.Prelude.{Ok, Err}
use Rattle.desk.proofs.Both.{neither, has_room}
use Rattle.desk.proofs.First.{none-given}
use Rattle.csc.specs.Csc.{column, rises}
use Rattle.tree.specs.Strike.{entry, later}
use Rattle.tree.proofs.Strikes.{Joins, strikes}
use Rattle.pivot.specs.declared.Regularisation.{Regularisation}
use Rattle.factor.specs.Factor.{Tables, Work, begun, run}
use Rattle.factor.proofs.Done.{logical-rows}
use Rattle.factor.proofs.Tested.{Passed, passed, factor-rows}
use Rattle.qdldl.specs.declared.Status.{Status}
use Rattle.qdldl.specs.Calls.{Outcome, settled, refuse}
use Rattle.qdldl.specs.Factoring.{FactorLent, factor_refusals, numeric_answer, numeric, logical, factor}

-- a list of rows is column i of plain striking out
pub record Lists (n : ℕ) (g : ℕ → ℕ → Bool) (i : ℕ) (rows : List ℕ) : Type 0 where
  pub each : (k : ℕ) → Joins n g i k → tally k rows ≡ 1
  pub only : (k : ℕ) → 0 < tally k rows → Joins n g i k
  pub rising : rises rows ≡ true

struck : (n : ℕ) (g : ℕ → ℕ → Bool) (i : ℕ) (rows : List ℕ) → i < n → rows ≡ later n g i → Lists n g i rows
struck n g i rows h e = let s = strikes n g i h in rw e (record { each = s.each; only = s.only; rising = s.rising })

-- what a factor that is not refused was lent
accepted : (s : Status) (l : FactorLent) → first (factor_refusals s l) ≡ Ok tt →
    Passed s.n s.m l.P l.etree l.lnz × (total l.lnz ≤ length l.out.li)
unfolding factor_refusals
accepted s l e =
    let a = none-given _ _ _ e in
    let b = none-given _ _ _ a.1 in
    let c = none-given _ _ _ b.1 in
    let d = none-given _ _ _ c.1 in
    let f = none-given _ _ _ d.1 in
    let g = none-given _ _ _ f.1 in
    (passed s.n s.m l.P l.etree l.lnz f.0, has_room (total l.lnz) l.out.li (neither _ (short (total l.lnz) l.out.lx) g.0).0)

module _ (s : Status) (reg : Regularisation) (l : FactorLent) (p : Passed s.n s.m l.P l.etree l.lnz) (room : total l.lnz ≤ length l.out.li)
    (i : ℕ) (h : i < s.n) where
  -- what the outcome's L has in column i
  abbrev rows_of : Outcome Tables → List ℕ
  rows_of o = column o.tables.lp o.tables.li i

  logical-lists : rows_of (logical s l) ≡ later s.n (entry l.P.colptr l.P.rowval) i
  unfolding logical
  logical-lists = logical-rows s.n l.P l.out (rw p.sizes at room) i h

  abbrev ran : Work
  ran = run s.n l.P l.etree l.dsigns reg (upto s.n) (begun s.n)

  -- a numeric factor that is done has not stopped
  going : (t : Status) → (numeric s reg l).answer ≡ Ok t → ran.stopped ≡ false
  unfolding numeric numeric_answer
  going t e = pick ran.stopped _ _ _ e
    where
      pick : (b : Bool) (r : Refusal) (u v : Status) → cond b (Err (refuse r u)) (Ok v) ≡ Ok t → b ≡ false
      pick true r u v e = absurd (let z : ◌≡◌ {A = ℕ} 0 1 = cc in omega arith)
      pick false r u v e = refl

  numeric-lists : (t : Status) → (numeric s reg l).answer ≡ Ok t → rows_of (numeric s reg l) ≡ later s.n (entry l.P.colptr l.P.rowval) i
  unfolding numeric
  numeric-lists t e = factor-rows p l.dsigns reg l.out (going t e) room i h

-- after a factor that is answered 0
pub factor-lists : (onlyLogical : Bool) (s : Status) (reg : Regularisation) (l : FactorLent) (t : Status) → (factor onlyLogical s reg l).answer ≡ Ok t →
    (i : ℕ) → i < s.n →
    Lists s.n (entry l.P.colptr l.P.rowval) i (column (factor onlyLogical s reg l).tables.lp (factor onlyLogical s reg l).tables.li i)
unfolding factor settled
factor-lists onlyLogical s reg l t e i h = judged (first (factor_refusals s l)) refl e
  where
    done : (b : Bool) → Passed s.n s.m l.P l.etree l.lnz → total l.lnz ≤ length l.out.li → (cond b (logical s l) (numeric s reg l)).answer ≡ Ok t →
        Lists s.n (entry l.P.colptr l.P.rowval) i (column (cond b (logical s l) (numeric s reg l)).tables.lp (cond b (logical s l) (numeric s reg l)).tables.li i)
    done true p room e = struck _ _ i _ h (logical-lists s reg l p room i h)
    done false p room e = struck _ _ i _ h (numeric-lists s reg l p room i h t e)

    judged : (v : Verdict) → first (factor_refusals s l) ≡ v → (settled v s l.out (cond onlyLogical (logical s l) (numeric s reg l))).answer ≡ Ok t →
        Lists s.n (entry l.P.colptr l.P.rowval) i
        (column (settled v s l.out (cond onlyLogical (logical s l) (numeric s reg l))).tables.lp (settled v s l.out (cond onlyLogical (logical s l) (numeric s reg l))).tables.li i)
    judged (Ok u) q e = let a = accepted s l q in done onlyLogical a.0 a.1 e
    judged (Err r) q e = absurd (let z : ◌≡◌ {A = ℕ} 0 1 = cc in omega arith)
