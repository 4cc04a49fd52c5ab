-- `reorder::count_entries` meets its contract. The invariant: what is left of the columns counts to what all of them do, with room for each.
-- Assumes nothing.
use lib.ListN.{length}
use Rattle.reorder.specs.Reorder.{new_cols}
use Rattle.reorder.specs.Steps.{widest}
use Rattle.reorder.proofs.Turns.{Left}
use Rattle.reorder.proofs.Passes.{cols_from}
use Rattle.reorder.proofs.count_entries.Given as goal

abbrev pub invariant-loop-c : goal.invariant-loop-c
invariant-loop-c l = Left (length l.iperm) widest (cols_from l.iperm l.a.colptr.now l.a.rowval.now l.c) l.next (new_cols (length l.iperm) l.iperm l.a.colptr.now l.a.rowval.now) l.initial.next
