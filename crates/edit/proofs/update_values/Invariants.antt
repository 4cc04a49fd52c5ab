-- `edit::update_values` meets its contract. The invariant: what is left of the indices gives what all of them do.
-- Assumes nothing.
use mathlib.Core.Path.{◌≡◌}
use lib.ListN.{drop}
use Rattle.edit.specs.Edit.{edited, updated}
use Rattle.edit.proofs.update_values.Given as goal

abbrev pub invariant-loop-j : goal.invariant-loop-j
invariant-loop-j l = edited (λ v old. v) l.map (drop l.j l.indices) (drop l.j l.values) l.vals ≡ updated l.map l.indices l.values l.initial.vals
