-- `reorder::fill_column` meets its contract. The invariant: what is left of the rows moves on, writes and maps to what all of them do.
-- Assumes nothing.
use lib.ListN.{length, drop}
use Rattle.reorder.specs.Steps.{cols_of, rows_of, room_of}
use Rattle.reorder.proofs.Turns.{Left, Placing}
use Rattle.reorder.proofs.fill_column.Given as goal

abbrev pub invariant-loop-j : goal.invariant-loop-j
invariant-loop-j l = Left (length l.iperm) (room_of l.initial.pr l.initial.pv) (cols_of l.iperm l.c (drop l.j l.rows)) l.next (cols_of l.iperm l.c l.rows) l.initial.next × Placing l.j (length l.rows) (cols_of l.iperm l.c (drop l.j l.rows)) (rows_of l.iperm l.c (drop l.j l.rows)) (drop l.j l.vals) (record { next = l.next; pr = l.pr; pv = l.pv; map = l.map }) (cols_of l.iperm l.c l.rows) (rows_of l.iperm l.c l.rows) l.vals (record { next = l.initial.next; pr = l.initial.pr; pv = l.initial.pv; map = l.initial.map })
