use Rattle.std.proofs.Common.{◌∙◌, arith}
use Rattle.solve.proofs.Columns.{summed_more, summed-done}
use Rattle.solve.proofs.gather.Goals as goal

pub loop-j-preserved : goal.loop-j-preserved
loop-j-preserved c =
    summed_more _ _ _ c.loop-j-test.true (omega (arith, c.loop-j-test.true, c.requires.rows_len)) c.wide-r.ensures _ _ ∙ c.loop-j.invariant

pub returns : goal.returns
returns c = summed-done _ _ _ c.loop-j-test.false _ _ ∙ c.loop-j.invariant
