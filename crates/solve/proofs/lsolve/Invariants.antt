-- `solve::lsolve` meets its contract. The invariant: what is left of the columns gives what all of them do.
-- Assumes nothing.
use Prim.Native.Nat.{◌-◌}
use mathlib.Core.Path.{◌≡◌}
use lib.ListN.{length}
use Rattle.desk.specs.Lists.{from, upto}
use Rattle.solve.specs.Solve.{lsolved}
use Rattle.solve.proofs.lsolve.Given as goal

abbrev pub invariant-loop-i : goal.invariant-loop-i
invariant-loop-i l = lsolved l.l.colptr.now l.l.rowval.now l.l.nzval.now (from l.i (length l.initial.x - l.i)) l.x ≡ lsolved l.l.colptr.now l.l.rowval.now l.l.nzval.now (upto (length l.initial.x)) l.initial.x
