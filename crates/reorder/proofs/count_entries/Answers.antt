use Rattle.reorder.proofs.Passes.{pass_all, pass_on, pass_done, column-ready}
use Rattle.reorder.proofs.count_entries.Goals as goal

pub loop-c-init : goal.loop-c-init
loop-c-init c = pass_all c.requires

pub count_column-requires : goal.count_column-requires
count_column-requires c = column-ready c.requires _ _ c.loop-c.invariant c.loop-c-test.true _ c.rows.ensures

pub loop-c-preserved : goal.loop-c-preserved
loop-c-preserved c =
    pass_on c.requires _ _ c.loop-c.invariant c.loop-c-test.true _ c.rows.ensures _ c.count_column.ensures

pub returns : goal.returns
returns c = pass_done c.requires _ _ c.loop-c.invariant c.loop-c-test.false
