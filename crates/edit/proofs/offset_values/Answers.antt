use Rattle.std.proofs.Common.{get_or, rules, refl, arith}
use lib.IntN.{pos}
use mir.Syntax.{w8}
use mir.ValLaws.{to_z-of_z}
use Rattle.edit.specs.Edit.{offset as offsetted}
use Rattle.edit.proofs.Edited.{edited_more, edited-done}
use Rattle.edit.proofs.offset_values.Goals as goal

pub loop-j-init : goal.loop-j-init
unfolding offsetted
loop-j-init c = refl

pub loop-j-preserved : goal.loop-j-preserved
loop-j-preserved c =
    let read = to_z-of_z w8 (get_or c.args.signs.now c.loop-j.j (pos 0)) (record { sfits = search rules }) in
    edited_more _ _ _ _ _ _ c.loop-j.invariant (pos 0) c.loop-j-test.true (omega (arith, c.loop-j-test.true, c.requires.signs_len)) c.place-p.ensures
    (rw read at c.offset_by.ensures)

pub returns : goal.returns
returns c = edited-done _ _ _ _ _ _ c.loop-j.invariant c.loop-j-test.false
