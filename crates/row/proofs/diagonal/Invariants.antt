-- `row::diagonal` meets its contract. The invariant: what is left of the entries gives what all of them do.
-- Assumes nothing.
use mathlib.Core.Path.{◌≡◌}
use Rattle.std.specs.Iterator.Adapters.{zip_first, zip_second}
use Rattle.std.specs.Slice.Iter.{iter_rest}
use Rattle.pivot.specs.Pivots.{+0}
use Rattle.row.specs.Row.{diagonal}
use Rattle.row.proofs.diagonal.Given as goal

abbrev pub invariant-loop-row : goal.invariant-loop-row
invariant-loop-row l =
    diagonal l.k (iter_rest (zip_first l.row-iterator)) (iter_rest (zip_second l.row-iterator)) l.found ≡ diagonal l.k l.rows l.vals +0
