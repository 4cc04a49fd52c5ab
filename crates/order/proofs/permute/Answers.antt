use Rattle.std.proofs.Common.{length, set, ◌<◌, ap, ◌∙◌, arith}
use Rattle.std.proofs.lemmas.List.{get_or_default}
use Rattle.order.proofs.Orderings.{stands_below, permuted_more, permuted-all}
use Rattle.order.proofs.permute.Given.{Over}
use Rattle.order.proofs.permute.Goals as goal
use Rattle.order.proofs.permute.Goals.{After-wide-j}

-- the number that the turn takes is a place of b
inside : (g : Over) (c : After-wide-j g) → c.wide-j.result < length c.args.b.now
inside g c = omega (arith, c.wide-j.ensures, stands_below _ c.requires.ordering c.loop-i.i c.loop-i-test.true, c.requires.reads)

pub offset_bounds-b-j : goal.offset_bounds-b-j
offset_bounds-b-j g c = omega (arith, inside g (goal.at.offset_bounds-b-j g c).After-wide-j)

pub bounds-b-j : goal.bounds-b-j
bounds-b-j g c = inside g (goal.at.bounds-b-j g c).After-wide-j

pub loop-i-preserved : goal.loop-i-preserved
loop-i-preserved g c d =
    ap (set c.loop-i.x c.loop-i.i) (c.index-b-j.is ∙ get_or_default _ _ _ d (inside g (goal.at.loop-i-preserved g c).After-wide-j))
    ∙ permuted_more d _ _ _ _ _ c.requires (c.loop-i.invariant d) c.loop-i-test.true c.wide-j.ensures

pub returns : goal.returns
returns g c d = permuted-all d _ _ _ _ _ c.requires (c.loop-i.invariant d) c.loop-i.auto.i-end c.loop-i-test.false
