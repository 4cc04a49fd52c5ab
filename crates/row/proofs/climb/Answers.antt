use Prim.Native.Nat.{◌<◌}
use mathlib.Core.Path.{sym, ◌∙◌}
use native.Mathlib.Omega.{arith}
use lib.ListN.{length}
use Rattle.row.specs.Kernels.{Climbable}
use Rattle.row.proofs.Walk.{Walking, long, walk_start, walk_past, walk_met, walk_room, walk_nearer, walk_more, at_mark}
use Rattle.row.proofs.climb.Goals as goal
use Rattle.row.proofs.climb.Goals.{At-loop-i, Else-marks-i-ne0}

asked : (at : At-loop-i) → Climbable at.requires.0 at.args.k at.args.start at.args.etree.now at.args.marks.now at.args.order.now
asked at = at.requires.1

way : (at : At-loop-i) → Walking at.requires.0 at.args.k at.args.start at.args.etree.now at.args.order.now at.loop-i.marks at.loop-i.order at.loop-i.len at.loop-i.i
way at = at.loop-i.invariant at.requires.0 (asked at)

room : (c : Else-marks-i-ne0) → c.loop-i.len < length c.args.order.now
room c = walk_room _ _ _ _ _ _ c.requires.1 _ _ _ _ (c.loop-i.invariant c.requires.0 c.requires.1) c.loop-i-test.true c.if-marks-i-ne0.false

pub loop-i-init : goal.loop-i-init
loop-i-init c = λ s b. walk_start s _ _ _ _ _ b

pub bounds-marks-i : goal.bounds-marks-i
bounds-marks-i c =
    at_mark _ _ _ _ _ _ (asked (goal.at.bounds-marks-i c).At-loop-i) _ _ _ _ (way (goal.at.bounds-marks-i c).At-loop-i) c.loop-i-test.true

pub shape_of-marks-then-marks-i-ne0 : goal.shape_of-marks-then-marks-i-ne0
shape_of-marks-then-marks-i-ne0 c =
    (way (goal.at.shape_of-marks-then-marks-i-ne0 c).At-loop-i).size_marks ∙ sym (asked (goal.at.shape_of-marks-then-marks-i-ne0 c).At-loop-i).size

pub shape_of-order-then-marks-i-ne0 : goal.shape_of-order-then-marks-i-ne0
shape_of-order-then-marks-i-ne0 c = (way (goal.at.shape_of-order-then-marks-i-ne0 c).At-loop-i).size

pub returns-then-marks-i-ne0 : goal.returns-then-marks-i-ne0
returns-then-marks-i-ne0 c = λ s b. walk_met s _ _ _ _ _ b _ _ _ _ (c.loop-i.invariant s b) c.loop-i-test.true c.if-marks-i-ne0.true

pub bounds-marks-i-in-loop-i : goal.bounds-marks-i-in-loop-i
bounds-marks-i-in-loop-i c =
    at_mark _ _ _ _ _ _ (asked (goal.at.bounds-marks-i-in-loop-i c).At-loop-i) _ _ _ _ (way (goal.at.bounds-marks-i-in-loop-i c).At-loop-i) c.loop-i-test.true

pub overflow_cast-order : goal.overflow_cast-order
overflow_cast-order c =
    omega (arith, c.loop-i-test.true, (asked (goal.at.overflow_cast-order c).At-loop-i).below, (asked (goal.at.overflow_cast-order c).At-loop-i).small)

pub offset_bounds-order-len : goal.offset_bounds-order-len
offset_bounds-order-len c = omega (arith, room (goal.at.offset_bounds-order-len c).Else-marks-i-ne0)

pub bounds-order-len : goal.bounds-order-len
bounds-order-len c = omega (arith, room (goal.at.bounds-order-len c).Else-marks-i-ne0, (way (goal.at.bounds-order-len c).At-loop-i).size)

pub overflow_add-len : goal.overflow_add-len
overflow_add-len c = omega (arith, room (goal.at.overflow_add-len c).Else-marks-i-ne0)

pub offset_bounds-etree-i : goal.offset_bounds-etree-i
offset_bounds-etree-i c =
    omega (arith, c.loop-i-test.true, (asked (goal.at.offset_bounds-etree-i c).At-loop-i).below, long _ _ _ _ _ _ (asked (goal.at.offset_bounds-etree-i c).At-loop-i))

pub bounds-etree-i : goal.bounds-etree-i
bounds-etree-i c =
    omega (arith, c.loop-i-test.true, (asked (goal.at.bounds-etree-i c).At-loop-i).below, long _ _ _ _ _ _ (asked (goal.at.bounds-etree-i c).At-loop-i))

pub loop-i-smaller : goal.loop-i-smaller
loop-i-smaller c =
    let near = walk_nearer _ _ _ _ _ _ (asked (goal.at.loop-i-smaller c).At-loop-i) _ _ _ _ (way (goal.at.loop-i-smaller c).At-loop-i) c.loop-i-test.true c.if-marks-i-ne0.false _ c.wide-i.ensures in omega (arith, near, c.loop-i-test.true)

pub loop-i-preserved : goal.loop-i-preserved
loop-i-preserved c =
    λ s b. walk_more s _ _ _ _ _ b _ _ _ _ (c.loop-i.invariant s b) c.loop-i-test.true c.if-marks-i-ne0.false _ c.wide-i.ensures

pub shape_of-marks : goal.shape_of-marks
shape_of-marks c = (way (goal.at.shape_of-marks c).At-loop-i).size_marks ∙ sym (asked (goal.at.shape_of-marks c).At-loop-i).size

pub shape_of-order : goal.shape_of-order
shape_of-order c = (way (goal.at.shape_of-order c).At-loop-i).size

pub returns : goal.returns
returns c = λ s b. walk_past s _ _ _ _ _ b _ _ _ _ (c.loop-i.invariant s b) c.loop-i-test.false
