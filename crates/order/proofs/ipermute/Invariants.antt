-- `order::ipermute` meets its contract. The invariant: what the loop has passed stands where the ordering sends it,
-- whatever stands for nothing. Assumes nothing.
use Rattle.order.proofs.Orderings.{Sent}
use Rattle.order.proofs.ipermute.Given as goal

abbrev pub invariant-loop-i : goal.invariant-loop-i
invariant-loop-i g l = (d : g.row.T.Denot) → Sent d l.p l.b l.i l.initial.x l.x
