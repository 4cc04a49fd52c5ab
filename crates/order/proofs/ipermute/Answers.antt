use Rattle.std.proofs.Common.{length, set, ◌<◌, ◌+◌, sym, ◌∙◌, subst, arith, rules}
use Rattle.std.proofs.lemmas.List.{get_or_default}
use Rattle.order.specs.Order.{ipermuted}
use Rattle.order.proofs.Orderings.{Sent, sent_none, sent_more, sent_all, stands_below, stands_first, length-ipermuted, get_or-ipermuted}
use Rattle.order.proofs.ipermute.Given.{Over}
use Rattle.order.proofs.ipermute.Goals as goal
use Rattle.order.proofs.ipermute.Goals.{After-wide-j}

pub loop-i-init : goal.loop-i-init
loop-i-init g c d = sent_none d _ _ _

-- the number that the turn takes is a place of x
inside : (g : Over) (c : After-wide-j g) → c.wide-j.result < length c.loop-i.x
inside g c =
    omega (arith, c.wide-j.ensures, stands_below _ c.requires.ordering c.loop-i.i c.loop-i-test.true, c.requires.writes, c.loop-i.auto.x)

pub offset_bounds-x-j : goal.offset_bounds-x-j
offset_bounds-x-j g c = let h = inside g (goal.at.offset_bounds-x-j g c).After-wide-j in search rules

pub bounds-x-j : goal.bounds-x-j
bounds-x-j g c = inside g (goal.at.bounds-x-j g c).After-wide-j

pub loop-i-preserved : goal.loop-i-preserved
loop-i-preserved g c d =
    let o = c.requires.ordering in
    let h = c.loop-i-test.true in
    let b = c.args.b.now in
    let low = inside g (goal.at.loop-i-preserved g c).After-wide-j in
    subst (λ v. Sent d c.args.p.now b (c.loop-i.i + 1) c.args.x.now (set c.loop-i.x c.wide-j.result v))
    (sym (c.index-b-i.is ∙ get_or_default b _ _ d (omega (arith, c.requires.reads, h))))
    (sent_more d _ _ _ _ _ (c.loop-i.invariant d) h c.wide-j.ensures low (stands_below _ o c.loop-i.i h) (stands_first _ o c.loop-i.i h))

pub returns : goal.returns
returns g c d =
    let f = c.requires in
    let p = c.args.p.now in
    let b = c.args.b.now in
    sent_all d p b _ _ (ipermuted d p b) c.loop-i.i (c.loop-i.invariant d) (omega (arith, c.loop-i.auto.i-end, c.loop-i-test.false)) (omega (arith, f.writes, c.loop-i.auto.x)) f.ordering (length-ipermuted d p b) (get_or-ipermuted d p b)
