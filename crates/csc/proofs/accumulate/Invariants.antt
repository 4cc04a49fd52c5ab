-- `csc::accumulate` meets its contract. The invariant: the sum so far is the pointer of the column at hand, and the table's front is the
-- pointers as far as that. Assumes nothing.
use Prim.Native.Nat.{◌+◌}
use mathlib.Core.Path.{◌≡◌}
use lib.ListN.{take, get_or}
use Rattle.desk.specs.Lists.{sums}
use Rattle.desk.proofs.Over.{front}
use Rattle.csc.proofs.accumulate.Given as goal

abbrev pub invariant-loop-c : goal.invariant-loop-c
invariant-loop-c l = (l.acc ≡ get_or (sums 0 (take l.n l.counts)) l.c 0) × (l.colptr ≡ front (sums 0 (take l.n l.counts)) l.initial.colptr (l.c + 1))
