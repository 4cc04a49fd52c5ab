-- `csc::copy_starts` meets its contract. The invariant: the table's front is the pointers as far as the loop has come. Assumes nothing.
use mathlib.Core.Path.{◌≡◌}
use lib.ListN.{take}
use Rattle.desk.proofs.Over.{front}
use Rattle.csc.proofs.copy_starts.Given as goal

abbrev pub invariant-loop-c : goal.invariant-loop-c
invariant-loop-c l = l.next ≡ front (take l.n l.colptr) l.initial.next l.c
