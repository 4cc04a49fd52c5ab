use mathlib.Core.Path.{◌∙◌}
use lib.ListN.{length-set}
use Rattle.std.proofs.lemmas.Slice.Zip.{either_empty_from_Zip}
use Rattle.row.proofs.Turns.{rest_inside, scattered_more, scattered-done}
use Rattle.row.proofs.scatter.Goals as goal

pub loop-row-preserved : goal.loop-row-preserved
loop-row-preserved c =
    let (e, f) = c.in-Some.ensures.steps in
    rw c.wide.ensures (rw length-set (rest_inside e c.loop-row.invariant.0), scattered_more e f _ _ ∙ c.loop-row.invariant.1)

pub returns : goal.returns
returns c = scattered-done _ _ _ _ (either_empty_from_Zip c.loop-row.row-iterator c.next.new.self _ c.in-None.is c.next.ensures.steps) ∙ c.loop-row.invariant.1
