-- `row::push` meets its contract. The invariant: what is left to move stands before what stands from its end on, as at the start.
-- Assumes nothing.
use Prim.Native.Nat.{◌+◌}
use mathlib.Core.Path.{◌≡◌}
use mathlib.Core.List.{◌++◌}
use lib.ListN.{take, drop}
use Rattle.row.proofs.push.Given as goal

abbrev pub invariant-loop-i : goal.invariant-loop-i
invariant-loop-i l = take l.i l.order ++ drop (l.to + l.i) l.order ≡ take l.len l.initial.order ++ drop l.top l.initial.order
