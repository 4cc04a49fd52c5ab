-- `reorder::count_column` meets its contract. The invariant: what is left of the rows counts to what all of them do, with room for each.
-- Assumes nothing.
use lib.ListN.{length, drop}
use Rattle.reorder.specs.Steps.{cols_of, widest}
use Rattle.reorder.proofs.Turns.{Left}
use Rattle.reorder.proofs.count_column.Given as goal

abbrev pub invariant-loop-row : goal.invariant-loop-row
invariant-loop-row l = Left (length l.iperm) widest (cols_of l.iperm l.c (drop l.row-index l.rows)) l.next (cols_of l.iperm l.c l.rows) l.initial.next
