-- `edit::scale_values` meets its contract. The invariant: what is left of the indices gives what all of them do.
-- Assumes nothing.
use mathlib.Core.Path.{◌≡◌}
use lib.ListN.{drop}
use Rattle.pivot.specs.Pivots.{◌⊗◌}
use Rattle.edit.specs.Edit.{edited, scaled}
use Rattle.edit.proofs.scale_values.Given as goal

abbrev pub invariant-loop-index : goal.invariant-loop-index
invariant-loop-index l = edited (λ i old. old ⊗ l.scale) l.map (drop l.index-index l.indices) (drop l.index-index l.indices) l.vals ≡ scaled l.map l.indices l.scale l.initial.vals
