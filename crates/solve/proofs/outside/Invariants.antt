-- `solve::outside` meets its contract. The invariant: what was found, or else what is left of the rows, answers as all of them do.
-- Assumes nothing.
use mathlib.Core.Bool.{◌||◌}
use mathlib.Core.Path.{◌≡◌}
use lib.ListN.{drop}
use Rattle.desk.specs.Lists.{any}
use Rattle.solve.proofs.Sound.{outside_of}
use Rattle.solve.proofs.outside.Given as goal

abbrev pub invariant-loop-r : goal.invariant-loop-r
invariant-loop-r l = (l.found || any (outside_of l.n l.i) (drop l.r-index l.rows)) ≡ any (outside_of l.n l.i) l.rows
