-- `solve::gather` meets its contract. The invariant: what is left of the rows, from the sum so far, gives what all of them do from +0.
-- Assumes nothing.
use mathlib.Core.Path.{◌≡◌}
use lib.ListN.{drop}
use Rattle.pivot.specs.Pivots.{+0}
use Rattle.solve.specs.Solve.{summed}
use Rattle.solve.proofs.gather.Given as goal

abbrev pub invariant-loop-j : goal.invariant-loop-j
invariant-loop-j l = summed (drop l.j l.rows) (drop l.j l.vals) l.x l.s ≡ summed l.rows l.vals l.x +0
