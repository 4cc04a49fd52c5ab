-- `row::climb` meets its contract. The invariant: the way up from start, in whatever graph and with whatever marked, stands at i.
-- The measure is how far i is below k. Assumes nothing.
use Prim.Native.Nat.{◌-◌}
use Rattle.row.specs.Kernels.{Marking, Climbable}
use Rattle.row.proofs.Walk.{Walking}
use Rattle.row.proofs.climb.Given as goal

abbrev pub invariant-loop-i : goal.invariant-loop-i
invariant-loop-i l = (s : Marking) → Climbable s l.k l.start l.etree l.initial.marks l.initial.order → Walking s l.k l.start l.etree l.initial.order l.marks l.order l.len l.i

abbrev pub decreases-loop-i : goal.decreases-loop-i
decreases-loop-i l = l.k - l.i
