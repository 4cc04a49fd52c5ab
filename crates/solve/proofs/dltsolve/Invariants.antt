-- `solve::dltsolve` meets its contract. The invariant: what is left of the columns gives what all of them do.
-- Assumes nothing.
use mathlib.Core.Path.{◌≡◌}
use mathlib.Core.List.{reverse}
use lib.ListN.{length}
use Rattle.desk.specs.Lists.{upto}
use Rattle.solve.specs.Solve.{dltsolved}
use Rattle.solve.proofs.dltsolve.Given as goal

abbrev pub invariant-loop-i : goal.invariant-loop-i
invariant-loop-i l = dltsolved l.l.colptr.now l.l.rowval.now l.l.nzval.now l.dinv (reverse (upto l.i)) l.x ≡ dltsolved l.l.colptr.now l.l.rowval.now l.l.nzval.now l.dinv (reverse (upto (length l.initial.x))) l.initial.x
