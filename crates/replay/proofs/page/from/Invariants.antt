-- `replay::page::from` meets its contract. The invariant: what is left is no longer than the page. The measure is how many bytes are
-- left, and each line has one.
use Rattle.std.proofs.Common.{◌≤◌, length}
use Rattle.replay.proofs.page.from.Given as goal

abbrev pub invariant-loop-name : goal.invariant-loop-name
invariant-loop-name l = length l.rest ≤ length l.page

abbrev pub decreases-loop-name : goal.decreases-loop-name
decreases-loop-name l = length l.rest
