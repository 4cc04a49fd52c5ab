use Prim.Native.Nat.{ℕ, ◌+◌, ◌-◌}
use mathlib.Core.List.{List, ◌∷◌}
use lib.ListN.{length, take, drop, drop_of_length-le}
use Rattle.std.proofs.lemmas.List.{take_rest}
use Rattle.row.specs.Kernels.{Setting, Ordered}
use Rattle.row.proofs.Eliminates.{Eliminating, eliminate-start, eliminable, eliminate_more, eliminate-done}
use Rattle.row.proofs.Turns.{column-at}
use Rattle.row.proofs.eliminate_all.Goals as goal
use Rattle.row.proofs.eliminate_all.Goals.{After-wide}

-- the columns of the row, and those that come after the turn's
abbrev columns : After-wide → List ℕ
columns c = take (length c.args.order.now - c.args.top) (drop c.args.top c.args.order.now)

abbrev after : After-wide → List ℕ
after c = drop (c.loop-column.column-index + 1) (columns c)

-- what a caller shows of the tables as they came
abbrev Lent : After-wide → Setting → Type 0
Lent c s =
    let a = c.args in
    Ordered s a.k a.top a.d a.order.now a.lp.now a.li.now a.next.now a.marks.now a.lx.now a.dinv.now a.y.now

ahead : (c : After-wide) (s : Setting) → Lent c s →
    let a = c.args in
    let at = c.loop-column in
    Eliminating s (length a.y.now) a.k a.dinv.now (c.wide.result ∷ after c) a.lp.now at.li at.next at.marks at.lx at.y at.dk
ahead c s b = rw (column-at (columns c) c.loop-column-test.true c.wide.ensures) at (c.loop-column.invariant s b)

pub loop-column-init : goal.loop-column-init
loop-column-init c = λ s b. rw (take_rest c.args.order.now c.args.top) (eliminate-start s _ _ _ _ _ _ _ _ _ _ _ b)

pub eliminate-dk-requires : goal.eliminate-dk-requires
eliminate-dk-requires c =
    let s = c.requires.0 in
    let b = c.requires.1 in
    eliminable s _ _ b.below b.small _ b.reciprocals _ (after (goal.at.eliminate-dk-requires c).After-wide) _ _ _ _ _ _ _ c.loop-column.auto.y (ahead (goal.at.eliminate-dk-requires c).After-wide s b)

pub loop-column-preserved : goal.loop-column-preserved
loop-column-preserved c =
    λ s b.
    eliminate_more s _ _ b.below b.small _ b.reciprocals _ (after (goal.at.loop-column-preserved c).After-wide) _ _ _ _ _ _ _ c.loop-column.auto.y (ahead (goal.at.loop-column-preserved c).After-wide s b) _ _ _ _ _ _ c.eliminate-dk.ensures

pub returns : goal.returns
returns c =
    λ s b.
    let columns = take (length c.args.order.now - c.args.top) (drop c.args.top c.args.order.now) in
    eliminate-done s _ _ b.below b.small _ b.reciprocals _ _ _ _ _ _ _ (rw (drop_of_length-le columns c.loop-column-test.false) at (c.loop-column.invariant s b))
