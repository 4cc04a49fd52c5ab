use Prim.Native.Nat.{ℕ, ◌+◌, ◌<◌}
use mathlib.Core.Path.{refl, ap, ◌∙◌}
use native.Mathlib.Omega.{arith}
use lib.ListN.{length}
use Rattle.std.proofs.lemmas.Result.{err_from_is_err_and}
use Rattle.csc.specs.Csc.{lent}
use Rattle.row.specs.Steps.{Stepped}
use Rattle.factor.specs.Steps.{lists_of}
use Rattle.factor.proofs.Runs.{ran}
use Rattle.factor.proofs.Running.{run-start, run-ready, run_moves, run_more, run_zero, run_end}
use Rattle.factor.proofs.rows.Goals as goal
use Rattle.factor.proofs.rows.Goals.{After-row}

below : (c : After-row) → c.loop.progress.row < length c.args.y.now
below c = omega (arith, c.loop.invariant.0, c.loop-test.true)

-- what the row leaves
stepped : (c : After-row) →
    let a = c.args in
    let at = c.loop in
    let A = lent a.a.now in
    let r = c.row in
    Stepped (lists_of (ran (length a.y.now) A a.dsigns.now a.regularisation at.progress.row) a.li.now a.lx.now) at.progress (length at.y) A a.etree.now a.dsigns.now a.regularisation
    a.lp.now r.new.li r.new.next r.new.marks r.new.lx at.d r.new.d at.dinv r.new.dinv r.new.y r.result
stepped c =
    let l = c.loop.auto in
    c.row.ensures _ (run-ready _ _ _ _ _ _ _ _ _ _ _ _ _ c.requires _ _ _ _ _ _ _ _ l.y c.loop.invariant.1 (below c) _ l.order l.d l.dinv)

pub loop-init : goal.loop-init
loop-init c = (refl, run-start _ _ _ _ _ _ _ _ _ _ _ _ _ c.requires)

pub row-requires : goal.row-requires
row-requires c =
    let (here, w) = c.loop.invariant in
    let a = c.loop.auto in
    (_, run-ready _ _ _ _ _ _ _ _ _ _ _ _ _ c.requires _ _ _ _ _ _ _ _ a.y w (omega (arith, here, c.loop-test.true)) _ a.order a.d a.dinv)

pub returns-in_err-progress : goal.returns-in_err-progress
returns-in_err-progress c =
    let (here, w) = c.loop.invariant in
    let p = err_from_is_err_and c.from_residual.result c.from_residual.ensures.1 in
    rw (p.1, p.2) (run_zero _ _ _ _ _ _ _ _ _ _ _ _ _ c.requires _ _ _ _ _ _ _ _ c.loop.auto.y w (below (goal.at.returns-in_err-progress c).After-row) _ _ _ _ _ _ _ _ (stepped (goal.at.returns-in_err-progress c).After-row) _ c.in_err-progress.was)

pub loop-preserved : goal.loop-preserved
loop-preserved c =
    let (here, w) = c.loop.invariant in (
      run_moves _ _ _ _ _ _ _ _ _ _ _ _ _ c.requires _ _ _ _ _ _ _ _ c.loop.auto.y w (below (goal.at.loop-preserved c).After-row) _ _ _ _ _ _ _ _ (stepped (goal.at.loop-preserved c).After-row) _ c.in_ok-progress.was ∙ ap (λ (k : ℕ). k + 1) here,
      run_more _ _ _ _ _ _ _ _ _ _ _ _ _ c.requires _ _ _ _ _ _ _ _ c.loop.auto.y w (below (goal.at.loop-preserved c).After-row) _ _ _ _ _ _ _ _ (stepped (goal.at.loop-preserved c).After-row) _ c.in_ok-progress.was,
    )

pub returns : goal.returns
returns c =
    let (here, w) = c.loop.invariant in
    run_end _ _ _ _ _ _ _ _ _ _ _ _ _ c.requires _ _ _ _ _ _ _ _ c.loop.auto.y w (omega (arith, here, c.loop-test.false))
