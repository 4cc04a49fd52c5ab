-- `order::invperm` meets its contract. The invariant: the numbers passed are in range and different, and the inverse has their places.
-- Assumes nothing.
use Rattle.order.proofs.Orderings.{Inverting}
use Rattle.order.proofs.invperm.Given as goal

abbrev pub invariant-loop-i : goal.invariant-loop-i
invariant-loop-i l = Inverting l.perm l.i l.initial.iperm l.iperm
