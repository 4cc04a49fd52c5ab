-- `row::eliminate_all` meets its contract. The invariant: the columns that are left are still to come, whatever the lists and the graph.
-- Assumes nothing.
use lib.ListN.{length, drop}
use Rattle.row.specs.Kernels.{Setting, Ordered}
use Rattle.row.proofs.Eliminates.{Eliminating}
use Rattle.row.proofs.eliminate_all.Given as goal

abbrev pub invariant-loop-column : goal.invariant-loop-column
invariant-loop-column l =
    (s : Setting) →
    Ordered s l.k l.top l.d l.order l.lp l.initial.li l.initial.next l.initial.marks l.initial.lx l.dinv l.initial.y →
    Eliminating s (length l.initial.y) l.k l.dinv (drop l.column-index l.column-items) l.lp l.li l.next l.marks l.lx l.y l.dk
