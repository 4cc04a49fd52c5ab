-- `solve::solve` meets its contract: the part of the scratch that is as long as the ordering keeps its length, and holds what each call leaves.
-- Assumes nothing.
use mathlib.Core.Path.{◌≡◌, ◌∙◌}
use lib.Ieee.{nan}
use lib.ListN.{length, take}
use lib.Seq.{length-take-le}
use Rattle.solve.proofs.Solves.{solved_is}
use Rattle.solve.proofs.solve.Goals as goal
use Rattle.solve.proofs.solve.Goals.{After-lsolve, After-permute, Start}

-- the part is as long as the ordering, at first and after each call
size-part : (s : Start) → length (take (length s.args.perm.now) s.args.x.now) ≡ length s.args.perm.now
size-part s = length-take-le _ _ s.requires.room

size-permuted : (c : After-permute) → length c.permute.new.x ≡ length c.args.perm.now
size-permuted c = c.permute.auto.x ∙ length-take-le _ _ c.requires.room

size-lsolved : (c : After-lsolve) → length c.lsolve.new.x ≡ length c.args.perm.now
size-lsolved c = c.lsolve.auto.x ∙ c.permute.auto.x ∙ length-take-le _ _ c.requires.room

pub returns : goal.returns
returns c =
    solved_is _ _ _ _ _ _ _ (size-part (goal.at.returns c).Start) (size-permuted (goal.at.returns c).After-permute) (size-lsolved (goal.at.returns c).After-lsolve) c.requires.side (c.permute.ensures nan) c.lsolve.ensures c.dltsolve.ensures (c.ipermute.ensures nan)
