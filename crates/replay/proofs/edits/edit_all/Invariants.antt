-- `replay::edits::edit_all` is safe and ends. The invariant: no more are done than bytes passed. The measure is how many bytes are left.
use Rattle.std.proofs.Common.{◌≤◌, ◌+◌, length}
use Rattle.replay.proofs.edits.edit_all.Given as goal

abbrev pub invariant-loop-rest : goal.invariant-loop-rest
invariant-loop-rest l = l.done + length l.rest ≤ length l.edits

abbrev pub decreases-loop-rest : goal.decreases-loop-rest
decreases-loop-rest l = length l.rest
