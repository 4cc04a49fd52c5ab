-- `edit::offset_values` meets its contract. The invariant: what is left of the indices gives what all of them do.
-- Assumes nothing.
use mathlib.Core.Path.{◌≡◌}
use lib.ListN.{drop}
use Rattle.edit.specs.Edit.{edited, offset_by, offset as offsetted}
use Rattle.edit.proofs.offset_values.Given as goal

abbrev pub invariant-loop-j : goal.invariant-loop-j
invariant-loop-j l = edited (offset_by l.offset) l.map (drop l.j l.indices) (drop l.j l.signs) l.vals ≡ offsetted l.map l.indices l.offset l.signs l.initial.vals
