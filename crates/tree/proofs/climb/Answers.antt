use Rattle.tree.specs.Marks.{Setting}
use Rattle.tree.proofs.Ways.{Way, way_done, way_visitable, way_more, way_nearer}
use Rattle.tree.proofs.climb.Goals as goal
use Rattle.tree.proofs.climb.Goals.{At-loop-work}

abbrev setting : At-loop-work → Setting
setting at = at.requires.0

way : (at : At-loop-work) → Way (setting at) at.args.start at.args.j at.loop-work.i at.args.work.now at.loop-work.work at.loop-work.lnz at.loop-work.etree
way at = at.loop-work.invariant (setting at) at.requires.1

pub visit-i-requires : goal.visit-i-requires
visit-i-requires c = way_visitable _ _ _ _ _ _ _ _ (way (goal.at.visit-i-requires c).At-loop-work) c.loop-work-test.true

pub loop-work-smaller : goal.loop-work-smaller
loop-work-smaller c =
    way_nearer _ _ _ _ _ _ _ _ (way (goal.at.loop-work-smaller c).At-loop-work) c.loop-work-test.true _ _ _ _ c.visit-i.ensures

pub loop-work-preserved : goal.loop-work-preserved
loop-work-preserved c = λ s b. way_more _ _ _ _ _ _ _ _ (c.loop-work.invariant s b) c.loop-work-test.true _ _ _ _ c.visit-i.ensures

pub returns : goal.returns
returns c = λ s b. way_done _ _ _ _ _ _ _ _ (c.loop-work.invariant s b) c.loop-work-test.false
