use Rattle.tree.specs.Strike.{entry as graph}
use Rattle.row.specs.Kernels.{Listable}
use Rattle.factor.proofs.LogicalTables.{rows_start, rows_listable, rows_more, rows-done}
use Rattle.factor.proofs.list_rows.Goals as goal
use Rattle.factor.proofs.list_rows.Goals.{After-rows}

listable : (c : After-rows) →
    let at = c.loop-k in
    let a = c.args in
    Listable (graph a.a.now.colptr.now a.a.now.rowval.now) a.li.now at.k c.rows.result.now a.etree.now at.li at.next at.marks at.order
listable c = rows_listable _ _ _ _ _ _ _ c.requires _ _ _ _ _ c.loop-k.auto.order c.loop-k.invariant c.loop-k-test.true c.rows.ensures

pub loop-k-init : goal.loop-k-init
loop-k-init c = rows_start _ _ _ _ _ _ _ c.requires

pub list_row-requires : goal.list_row-requires
list_row-requires c = (_, (_, listable (goal.at.list_row-requires c).After-rows))

pub loop-k-preserved : goal.loop-k-preserved
loop-k-preserved c =
    rows_more _ _ _ _ _ _ _ c.requires _ _ _ _ c.loop-k.order c.loop-k.auto.order c.loop-k.invariant _ _ _ (c.list_row.ensures _ _ (listable (goal.at.loop-k-preserved c).After-rows))

pub returns : goal.returns
returns c = rows-done _ _ _ _ _ _ _ c.requires _ _ _ _ c.loop-k.invariant c.loop-k.auto.k-end c.loop-k-test.false
