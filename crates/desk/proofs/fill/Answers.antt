use Rattle.std.proofs.Common.{◌≤◌, take, length, replicate, arith}
use lib.ListN.{length-replicate}
use lib.Seq.{length-take-le}
use Rattle.desk.specs.Lists.{over}
use Rattle.desk.proofs.Over.{fill_more, fill_all, over-whole}
use Rattle.desk.proofs.fill.Goals as goal

pub loop-x-preserved : goal.loop-x-preserved
loop-x-preserved g c =
    let front = length-take-le c.args.n c.args.xs.now c.requires in
    fill_more _ c.args.v _ (omega (arith, front)) _ (omega (arith, front, c.loop-x-test.true)) _ c.loop-x.invariant

pub returns : goal.returns
unfolding over
returns g c =
    let front = length-take-le c.args.n c.args.xs.now c.requires in
    let lent = length-replicate c.args.n c.args.v in
    let all = fill_all _ c.args.v _ (omega (arith, front)) c.loop-x.x-index (omega (arith, front, c.loop-x.auto.x-index-end)) (omega (arith, front, c.loop-x-test.false)) _ c.loop-x.invariant in
    let short : length (take c.args.n c.args.xs.now) ≤ length (replicate c.args.n c.args.v) = omega (arith, front, lent) in
    rw (all, over-whole _ _ short, lent)
