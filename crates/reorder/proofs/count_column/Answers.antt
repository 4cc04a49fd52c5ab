use mathlib.Core.Path.{◌≡◌, refl, ap, ◌∙◌}
use native.Mathlib.Omega.{arith}
use lib.ListN.{get_or}
use Rattle.reorder.specs.Reorder.{new_col}
use Rattle.reorder.proofs.Turns.{key_room, left_turn, left_done}
use Rattle.reorder.proofs.count_column.Goals as goal
use Rattle.reorder.proofs.count_column.Goals.{After-wide-k}

-- the new column of the row that a turn names
key : (c : After-wide-k) → c.wide-k.result ≡ new_col c.args.iperm.now c.args.c (get_or c.args.rows.now c.loop-row.row-index 0)
key c = c.wide-k.ensures ∙ c.max.ensures ∙ ap (new_col c.args.iperm.now c.args.c) c.wide-r.ensures

pub overflow_add-next : goal.overflow_add-next
overflow_add-next c =
    omega (arith, key_room c.requires _ _ _ c.loop-row-test.true (key (goal.at.overflow_add-next c).After-wide-k) c.loop-row.invariant)

pub loop-row-preserved : goal.loop-row-preserved
loop-row-preserved c =
    left_turn c.requires _ _ _ c.loop-row-test.true (key (goal.at.loop-row-preserved c).After-wide-k) c.loop-row.invariant _ refl

pub returns : goal.returns
returns c = left_done _ _ c.loop-row.row-index _ _ _ _ _ c.loop-row-test.false c.loop-row.invariant
