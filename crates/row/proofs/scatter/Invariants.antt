-- `row::scatter` meets its contract. The invariant: what is left of the rows gives what all of them do, and each is a place of x.
-- Assumes nothing.
use mathlib.Core.Path.{◌≡◌}
use lib.ListN.{length}
use Rattle.std.specs.Iterator.Adapters.{zip_first, zip_second}
use Rattle.std.specs.Slice.Iter.{iter_rest}
use Rattle.row.specs.Row.{scattered}
use Rattle.row.proofs.Turns.{Inside}
use Rattle.row.proofs.scatter.Given as goal

abbrev pub invariant-loop-row : goal.invariant-loop-row
invariant-loop-row l =
    let rows = iter_rest (zip_first l.row-iterator) in
    let vals = iter_rest (zip_second l.row-iterator) in
    Inside (length l.x) rows × (scattered rows vals l.v l.x ≡ scattered l.rows l.vals l.v l.initial.x)
