-- `row::spread` meets its contract. The invariant: what is left of the entries gives what all of them do, and each is a place of y.
-- Assumes nothing.
use mathlib.Core.Path.{◌≡◌}
use lib.ListN.{length}
use Rattle.std.specs.Iterator.Adapters.{zip_first, zip_second}
use Rattle.std.specs.Slice.Iter.{iter_rest}
use Rattle.pivot.specs.Pivots.{+0}
use Rattle.row.specs.Row.{spread, diagonal}
use Rattle.row.proofs.Turns.{Inside}
use Rattle.row.proofs.spread.Given as goal

abbrev pub invariant-loop-row : goal.invariant-loop-row
invariant-loop-row l =
    let rows = iter_rest (zip_first l.row-iterator) in
    let vals = iter_rest (zip_second l.row-iterator) in
    Inside (length l.y) rows × (spread l.k rows vals l.y ≡ spread l.k l.rows l.vals l.initial.y) × (diagonal l.k rows vals l.d ≡ diagonal l.k l.rows l.vals +0)
