-- `replay::edits::apply` is safe: its tests give what the kernels of the edits ask.
use Rattle.std.proofs.Common.{sym, refl}
use Rattle.edit.proofs.Tested.{editable}
use Rattle.replay.proofs.edits.apply.Goals as goal

pub update_values-requires-clause-editable : goal.update_values-requires-clause-editable
update_values-requires-clause-editable c = editable _ _ _ _ (sym c.if-reaches.ensures) (sym c.if-reaches-2.ensures) refl c.if-vals-m.false

pub scale_values-requires : goal.scale_values-requires
scale_values-requires c = editable _ _ _ _ (sym c.if-reaches.ensures) (sym c.if-reaches-2.ensures) refl c.if-vals-m.false

pub offset_values-requires-clause-editable : goal.offset_values-requires-clause-editable
offset_values-requires-clause-editable c = editable _ _ _ _ (sym c.if-reaches.ensures) (sym c.if-reaches-2.ensures) refl c.if-vals-m.false
