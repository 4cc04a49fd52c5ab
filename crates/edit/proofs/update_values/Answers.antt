use Rattle.std.proofs.Common.{refl, arith}
use lib.Ieee.{nan}
use Rattle.edit.specs.Edit.{updated}
use Rattle.edit.proofs.Edited.{edited_more, edited-done}
use Rattle.edit.proofs.update_values.Goals as goal

pub loop-j-init : goal.loop-j-init
unfolding updated
loop-j-init c = refl

pub loop-j-preserved : goal.loop-j-preserved
loop-j-preserved c =
    edited_more _ _ _ _ _ _ c.loop-j.invariant nan c.loop-j-test.true (omega (arith, c.loop-j-test.true, c.requires.values_len)) c.place-p.ensures refl

pub returns : goal.returns
returns c = edited-done _ _ _ _ _ _ c.loop-j.invariant c.loop-j-test.false
