use Rattle.std.proofs.Common.{refl}
use Rattle.edit.specs.Edit.{scaled}
use Rattle.edit.proofs.Edited.{edited_more, edited-done}
use Rattle.edit.proofs.scale_values.Goals as goal

pub loop-index-init : goal.loop-index-init
unfolding scaled
loop-index-init c = refl

pub loop-index-preserved : goal.loop-index-preserved
loop-index-preserved c =
    edited_more _ _ _ _ _ _ c.loop-index.invariant 0 c.loop-index-test.true c.loop-index-test.true c.place-p.ensures refl

pub returns : goal.returns
returns c = edited-done _ _ _ _ _ _ c.loop-index.invariant c.loop-index-test.false
