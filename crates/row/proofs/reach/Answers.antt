use Prim.Native.Nat.{ℕ}
use mathlib.Core.Bool.{Bool}
use native.Mathlib.Omega.{arith}
use Rattle.row.specs.Kernels.{Climbable, Reachable}
use Rattle.row.proofs.Reaches.{Reaching, setting, reach_start, reach_climbable, reach_pushable, reach_more, reach_done}
use Rattle.row.proofs.reach.Goals as goal
use Rattle.row.proofs.reach.Goals.{After-wide, At-loop-row}

asked : (at : At-loop-row) → Reachable at.requires.0 at.args.k at.args.rows.now at.args.etree.now at.args.marks.now at.args.order.now
asked at = at.requires.1

reached : (at : At-loop-row) → Reaching at.requires.0 at.args.k at.args.rows.now at.args.etree.now at.args.order.now at.loop-row.marks at.loop-row.order at.loop-row.top at.loop-row.row-index
reached at = at.loop-row.invariant at.requires.0 (asked at)

climbable : (c : After-wide) (g : ℕ → ℕ → Bool) (b : Reachable g c.args.k c.args.rows.now c.args.etree.now c.args.marks.now c.args.order.now) →
    Climbable (setting g c.loop-row.top c.loop-row.order) c.args.k c.wide.result c.args.etree.now c.loop-row.marks c.loop-row.order
climbable c g b = reach_climbable g _ _ _ _ _ b _ _ _ _ (c.loop-row.invariant g b) c.loop-row-test.true c.wide.ensures

pub loop-row-init : goal.loop-row-init
loop-row-init c = λ g b. reach_start g _ _ _ _ _ b

pub climb-len-requires : goal.climb-len-requires
climb-len-requires c = (_, climbable (goal.at.climb-len-requires c).After-wide _ (asked (goal.at.climb-len-requires c).At-loop-row))

pub push-top-requires : goal.push-top-requires
push-top-requires c =
    let so = c.climb-len.auto.order in (
      reach_pushable _ _ _ _ _ _ (asked (goal.at.push-top-requires c).At-loop-row) _ _ _ _ (reached (goal.at.push-top-requires c).At-loop-row) c.loop-row-test.true c.wide.ensures _ _ _ (c.climb-len.ensures _ (climbable (goal.at.push-top-requires c).After-wide _ (asked (goal.at.push-top-requires c).At-loop-row))) c.climb-len.auto.marks so,
      omega (arith, so, (reached (goal.at.push-top-requires c).At-loop-row).inside),
    )

pub loop-row-preserved : goal.loop-row-preserved
loop-row-preserved c =
    λ g b.
    let i = c.loop-row.invariant g b in
    reach_more g _ _ _ _ _ b _ _ _ _ i c.loop-row-test.true c.wide.ensures _ _ _ (c.climb-len.ensures _ (climbable (goal.at.loop-row-preserved c).After-wide g b)) c.climb-len.auto.marks c.climb-len.auto.order _ _ c.push-top.ensures c.push-top.auto.order

pub returns : goal.returns
returns c =
    reach_done _ _ _ _ _ _ (asked (goal.at.returns c).At-loop-row) _ _ _ _ (reached (goal.at.returns c).At-loop-row) c.loop-row-test.false
