use mathlib.Core.Path.{◌∙◌}
use native.Mathlib.Omega.{arith}
use lib.ListN.{take}
use lib.Seq.{length-take-le}
use Rattle.desk.proofs.Over.{front_more, front_all}
use Rattle.csc.proofs.copy_starts.Goals as goal

pub loop-c-preserved : goal.loop-c-preserved
loop-c-preserved c =
    rw c.loop-c.invariant (front_more (take c.args.n c.args.colptr.now) c.args.next.now 0 c.loop-c.c c.loop-c-test.true
    (omega (arith, c.loop-c-test.true, length-take-le c.args.n c.args.colptr.now c.requires.n_in_bounds)))

pub returns : goal.returns
returns c = c.loop-c.invariant ∙ front_all (take c.args.n c.args.colptr.now) c.args.next.now c.loop-c.c (omega (arith, c.loop-c-test.false))
