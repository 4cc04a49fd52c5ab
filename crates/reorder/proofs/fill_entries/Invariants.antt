-- `reorder::fill_entries` meets its contract. The invariant: what is left of the columns moves on, writes and maps to what all of them do.
-- Assumes nothing.
use lib.ListN.{length, drop, get_or}
use Rattle.reorder.specs.Reorder.{new_cols, new_rows}
use Rattle.reorder.specs.Steps.{room_of}
use Rattle.reorder.proofs.Turns.{Left, Placing}
use Rattle.reorder.proofs.Passes.{cols_from, rows_from}
use Rattle.reorder.proofs.fill_entries.Given as goal

abbrev pub invariant-loop-c : goal.invariant-loop-c
invariant-loop-c l = Left (length l.iperm) (room_of l.initial.pr l.initial.pv) (cols_from l.iperm l.a.colptr.now l.a.rowval.now l.c) l.next (new_cols (length l.iperm) l.iperm l.a.colptr.now l.a.rowval.now) l.initial.next × Placing (get_or l.a.colptr.now l.c 0) (length l.a.rowval.now) (cols_from l.iperm l.a.colptr.now l.a.rowval.now l.c) (rows_from l.iperm l.a.colptr.now l.a.rowval.now l.c) (drop (get_or l.a.colptr.now l.c 0) l.a.nzval.now) (record { next = l.next; pr = l.pr; pv = l.pv; map = l.map }) (new_cols (length l.iperm) l.iperm l.a.colptr.now l.a.rowval.now) (new_rows (length l.iperm) l.iperm l.a.colptr.now l.a.rowval.now) l.a.nzval.now (record { next = l.initial.next; pr = l.initial.pr; pv = l.initial.pv; map = l.initial.map })
