-- `desk::short_scratch` meets its contract: the three tests, one after the other.
-- Assumes nothing.
use mathlib.Core.Bool.{or_assoc, or-false}
use Rattle.desk.proofs.short_scratch.Goals as goal

pub returns : goal.returns
returns c = simp (or_assoc, or-false)
