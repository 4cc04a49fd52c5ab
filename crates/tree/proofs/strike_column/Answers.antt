use Rattle.tree.specs.Marks.{Setting, Start, Column}
use Rattle.tree.proofs.Rows.{Entering, entering_none, entering_start, entering_more, entering_done}
use Rattle.tree.proofs.strike_column.Goals as goal
use Rattle.tree.proofs.strike_column.Goals.{After-climb-arg-in-loop-row-2-1, At-loop-row}

abbrev setting : At-loop-row → Setting
setting at = at.requires.0

entering : (at : At-loop-row) → Entering (setting at) at.args.j at.args.rows.now at.loop-row.row-index at.loop-row.work at.loop-row.lnz at.loop-row.etree
entering at = at.loop-row.invariant (setting at) at.requires.1.column (entering_none _ _ _ _ _ _ at.requires.1)

started : (c : After-climb-arg-in-loop-row-2-1) (s : Setting) →
    Entering s c.args.j c.args.rows.now c.loop-row.row-index c.loop-row.work c.loop-row.lnz c.loop-row.etree →
    Column s.g c.args.j c.args.rows.now →
    Start s c.wide.result c.args.j c.loop-row.work c.loop-row.lnz c.loop-row.etree
started c s a col = entering_start s _ _ _ _ _ _ a col c.loop-row-test.true c.wide.ensures

pub climb-requires : goal.climb-requires
climb-requires c =
    (setting (goal.at.climb-requires c).At-loop-row, started (goal.at.climb-requires c).After-climb-arg-in-loop-row-2-1 (setting (goal.at.climb-requires c).At-loop-row) (entering (goal.at.climb-requires c).At-loop-row) c.requires.1.column)

pub loop-row-preserved : goal.loop-row-preserved
loop-row-preserved c =
    λ s col a.
    let now-entering = c.loop-row.invariant s col a in
    entering_more s _ _ _ _ _ _ now-entering col c.wide.ensures _ _ _ (c.climb.ensures s (started (goal.at.loop-row-preserved c).After-climb-arg-in-loop-row-2-1 s now-entering col))

pub returns : goal.returns
returns c =
    λ s x. entering_done s _ _ _ _ _ _ (c.loop-row.invariant s x.column (entering_none s _ _ _ _ _ x)) x.column c.loop-row-test.false
