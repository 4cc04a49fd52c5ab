-- `order::permute` meets its contract. The invariant: x's front is the permuted list as far as the loop has come,
-- whatever stands for nothing. Assumes nothing.
use Rattle.std.proofs.Common.{◌≡◌}
use Rattle.desk.proofs.Over.{front}
use Rattle.order.specs.Order.{permuted}
use Rattle.order.proofs.permute.Given as goal

abbrev pub invariant-loop-i : goal.invariant-loop-i
invariant-loop-i g l = (d : g.row.T.Denot) → l.x ≡ front (permuted d l.p l.b) l.initial.x l.i
