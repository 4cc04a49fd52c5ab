-- `factor::rows` meets its contract. The invariant: the tables are those of the run of the rows so far, which has not stopped.
-- Assumes nothing.
use mathlib.Core.Path.{◌≡◌}
use lib.ListN.{length}
use Rattle.csc.specs.Csc.{lent}
use Rattle.factor.proofs.Running.{Running}
use Rattle.factor.proofs.rows.Given as goal

abbrev pub invariant-loop : goal.invariant-loop
invariant-loop l =
    (l.progress.row ≡ l.counter)
    × Running (length l.initial.y) (lent l.a) l.dsigns l.regularisation l.lp l.initial.li l.initial.lx l.initial.dinv l.li l.next l.marks l.lx l.d l.dinv l.y l.progress
