-- `row::reach` meets its contract. The invariant: the paths so far stand at the back of the order, whatever the graph.
-- Assumes nothing.
use Prim.Native.Nat.{ℕ}
use mathlib.Core.Bool.{Bool}
use Rattle.row.specs.Kernels.{Reachable}
use Rattle.row.proofs.Reaches.{Reaching}
use Rattle.row.proofs.reach.Given as goal

abbrev pub invariant-loop-row : goal.invariant-loop-row
invariant-loop-row l = (g : ℕ → ℕ → Bool) → Reachable g l.k l.rows l.etree l.initial.marks l.initial.order → Reaching g l.k l.rows l.etree l.initial.order l.marks l.order l.top l.row-index
