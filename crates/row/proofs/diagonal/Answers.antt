use mathlib.Core.Path.{◌∙◌}
use borrow.Author.Tests.{eq-eqb, ne_eqb}
use Rattle.std.proofs.lemmas.Slice.Zip.{either_empty_from_Zip}
use Rattle.row.proofs.Turns.{diagonal_more, diagonal-done}
use Rattle.row.proofs.diagonal.Goals as goal

pub loop-row-preserved-then-wide-k : goal.loop-row-preserved-then-wide-k
loop-row-preserved-then-wide-k c =
    let (e, f) = c.in-Some.ensures.steps in
    rw (eq-eqb _ _ (rw c.wide.ensures at c.if-wide-k.true)) at (diagonal_more e f c.args.k c.loop-row.found) ∙ c.loop-row.invariant

pub loop-row-preserved : goal.loop-row-preserved
loop-row-preserved c =
    let (e, f) = c.in-Some.ensures.steps in
    rw (ne_eqb _ _ (rw c.wide.ensures at c.if-wide-k.false)) at (diagonal_more e f c.args.k c.loop-row.found) ∙ c.loop-row.invariant

pub returns : goal.returns
returns c = diagonal-done _ _ _ _ (either_empty_from_Zip c.loop-row.row-iterator c.next.new.self _ c.in-None.is c.next.ensures.steps) ∙ c.loop-row.invariant
