-- `figures::edits::edited` meets what the three edits ask: its tests say it of the map and the indices.
use Rattle.std.proofs.Common.{sym, arith}
use Rattle.edit.proofs.Tested.{editable}
use Rattle.figures.proofs.edits.edited.Goals as goal

pub update_values-requires-clause-editable : goal.update_values-requires-clause-editable
update_values-requires-clause-editable c = editable 3 _ _ _ (sym c.if-reaches.ensures) (sym c.if-reaches-2.ensures) (omega arith) c.requires.updated_len

pub scale_values-requires : goal.scale_values-requires
scale_values-requires c = editable 3 _ _ _ (sym c.if-reaches.ensures) (sym c.if-reaches-2.ensures) (omega arith) c.requires.scaled_len

pub offset_values-requires-clause-editable : goal.offset_values-requires-clause-editable
offset_values-requires-clause-editable c = editable 3 _ _ _ (sym c.if-reaches.ensures) (sym c.if-reaches-2.ensures) (omega arith) c.requires.offset_len
