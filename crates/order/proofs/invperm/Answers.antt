use mathlib.Core.Path.{◌≡◌, sym, ap, ◌∙◌}
use mathlib.Core.Bool.{false≢true}
use native.Mathlib.Omega.{arith}
use lib.ListN.{length, replicate, length-replicate}
use Rattle.desk.proofs.Over.{over-over, length_filled}
use Rattle.desk.specs.Lists.{over}
use Rattle.order.specs.Order.{inverse}
use Rattle.order.proofs.Orderings.{unset, inverting_none, inverting_more, inverting_twice, inverted-ordering, inverted, out_of_range, length-inverse}
use Rattle.order.proofs.invperm.Goals as goal
use Rattle.order.proofs.invperm.Goals.{At-loop-i}

-- the inverse is as long as it came
size : (at : At-loop-i) → length at.loop-i.iperm ≡ length at.args.iperm.now
size at = at.loop-i.invariant.sent.size ∙ ap length at.fill.ensures ∙ length_filled _ _ _ at.requires.perm_in_bounds

pub loop-i-init : goal.loop-i-init
loop-i-init c = inverting_none _ _ _ c.fill.ensures

pub returns-then-n-j : goal.returns-then-n-j
returns-then-n-j c =
    let no = out_of_range c.args.perm.now c.loop-i.i c.loop-i-test.true (omega (arith, c.if-n-j.true, c.wide-j.ensures)) in
    record { answer = sym no; inverted = λ e. absurd (false≢true e) }

pub returns-then-iperm-j : goal.returns-then-iperm-j
returns-then-iperm-j c =
    let no = inverting_twice _ _ _ _ c.requires.perm_len_bound c.loop-i-test.true c.wide-j.ensures c.if-n-j.false c.loop-i.invariant c.if-iperm-j.true in
    record { answer = sym no; inverted = λ t. absurd (false≢true t) }

pub loop-i-preserved : goal.loop-i-preserved
loop-i-preserved c =
    inverting_more _ _ _ _ c.requires.perm_len_bound c.loop-i-test.true c.wide-j.ensures c.if-n-j.false c.loop-i.invariant (omega (arith, size (goal.at.loop-i-preserved c).At-loop-i, c.requires.perm_in_bounds)) c.if-iperm-j.false

pub returns : goal.returns
returns c =
    let p = c.args.perm.now in
    let done : c.loop-i.i ≡ length p = omega (arith, c.loop-i.auto.i-end, c.loop-i-test.false) in
    record {
      answer = sym (inverted-ordering _ _ _ _ done c.loop-i.invariant);
      inverted = λ t.
          inverted _ _ _ _ done c.loop-i.invariant (omega (arith, size (goal.at.returns c).At-loop-i, c.requires.perm_in_bounds))
          ∙ ap (over (inverse p)) c.fill.ensures
          ∙ over-over (inverse p) (replicate (length p) unset) _ (length-inverse p ∙ sym (length-replicate (length p) unset));
    }
