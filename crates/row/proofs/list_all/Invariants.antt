-- `row::list_all` meets its contract. The invariant: the columns that are left are still to come, whatever the graph and what lay in L.
-- Assumes nothing.
use Prim.Native.Nat.{ℕ}
use mathlib.Core.Bool.{Bool}
use mathlib.Core.List.{List}
use lib.ListN.{length, drop}
use Rattle.row.specs.Kernels.{Listing}
use Rattle.row.proofs.list_all.Given as goal

abbrev pub invariant-loop-column : goal.invariant-loop-column
invariant-loop-column l =
    let n = length l.initial.marks in
    (g : ℕ → ℕ → Bool) (old : List ℕ) → Listing g n l.k old l.columns l.initial.li l.initial.next l.initial.marks → Listing g n l.k old (drop l.column-index l.columns) l.li l.next l.marks
