-- `replay::replay_all` is safe and ends. The measure is how many bytes are left.
use Rattle.std.proofs.Common.{length}
use Rattle.replay.proofs.replay_all.Given as goal

abbrev pub decreases-loop-rest : goal.decreases-loop-rest
decreases-loop-rest l = length l.rest
