use mathlib.Core.Path.{◌∙◌}
use borrow.Author.Tests.{eq-eqb, ne_eqb}
use lib.ListN.{length-set}
use Rattle.std.proofs.lemmas.Slice.Zip.{either_empty_from_Zip}
use Rattle.row.proofs.Turns.{rest_inside, spread_more, diagonal_more, spread-done, diagonal-done}
use Rattle.row.proofs.spread.Goals as goal

pub loop-row-preserved-then-r-k : goal.loop-row-preserved-then-r-k
loop-row-preserved-then-r-k c =
    let (e, f) = c.in-Some.ensures.steps in
    let i = c.loop-row.invariant in
    let here = eq-eqb _ _ (rw c.wide-r.ensures at c.if-r-k.true) in
    (rest_inside e i.0, rw here at (spread_more e f c.args.k c.loop-row.y) ∙ i.1, rw here at (diagonal_more e f c.args.k c.loop-row.d) ∙ i.2)

pub loop-row-preserved : goal.loop-row-preserved
loop-row-preserved c =
    let (e, f) = c.in-Some.ensures.steps in
    let i = c.loop-row.invariant in
    let above = ne_eqb _ _ (rw c.wide-r.ensures at c.if-r-k.false) in
    rw c.wide-r.ensures (
      rw length-set (rest_inside e i.0),
      rw above at (spread_more e f c.args.k c.loop-row.y) ∙ i.1,
      rw above at (diagonal_more e f c.args.k c.loop-row.d) ∙ i.2,
    )

pub returns : goal.returns
returns c =
    let none = either_empty_from_Zip c.loop-row.row-iterator c.next.new.self _ c.in-None.is c.next.ensures.steps in
    (spread-done _ _ _ _ none ∙ c.loop-row.invariant.1, diagonal-done _ _ _ _ none ∙ c.loop-row.invariant.2)
