-- `qdldl::Status::analyse` meets its contract: behind a verdict that is no refusal the tables are computed. Assumes nothing.
use Rattle.std.proofs.Common.{rules, ◌≡◌, Ok, sym, ◌∙◌}
use native.Mathlib.Omega.{arith}
use mathlib.Core.List.{[], ◌∷◌}
use lib.Seq.{length-take-le}
use Rattle.desk.specs.Desk.{Verdict, first}
use Rattle.csc.specs.Csc.{lent}
use Rattle.analysis.specs.Analysis.{AnalysisLent, analysis_lent, analysis_refusals}
use Rattle.analysis.specs.Lent.{tables_of}
use Rattle.analysis.proofs.Accepted.{lengths, computable}
use Rattle.qdldl.proofs.Settled.{ok_alike, done}
use Rattle.qdldl.proofs.Status.analyse.Goals as goal
use Rattle.qdldl.proofs.Status.analyse.Goals.{In_ok-map_err}

-- what was lent
abbrev L : In_ok-map_err → AnalysisLent
L s =
    let a = s.args in
    analysis_lent a.nrows a.n (lent a.a.now) a.perm.now a.signs.now
    (tables_of a.out.now)
    (a.iperm.now ∷ a.next.now ∷ a.work.now ∷ [])

judged : (c : In_ok-map_err) → ◌≡◌ {A = Verdict} (Ok tt) c.judge.result
judged c = ok_alike _ _ _ c.in_ok-map_err.was c.map_err.ensures.variant

accepted : (c : In_ok-map_err) → Ok tt ≡ first (analysis_refusals (L c))
accepted c = judged c ∙ rw c.read.ensures at c.judge.ensures.verdict

pub slice_bounds-inverse-end : goal.slice_bounds-inverse-end
slice_bounds-inverse-end c =
    omega (arith, c.judge.auto.iperm, (lengths _ _ _ _ _ _ _ _ _ (accepted (goal.at.slice_bounds-inverse-end c).In_ok-map_err)).room_first)

pub slice_bounds-inverse-end-2 : goal.slice_bounds-inverse-end-2
slice_bounds-inverse-end-2 c =
    sym (length-take-le _ _ ((omega (arith, c.judge.auto.iperm, (lengths _ _ _ _ _ _ _ _ _ (accepted (goal.at.slice_bounds-inverse-end-2 c).In_ok-map_err)).room_first))))

pub compute-nnzl-requires : goal.compute-nnzl-requires
compute-nnzl-requires c =
    computable _ _ _ _ _ _ _ _ _ (accepted (goal.at.compute-nnzl-requires c).In_ok-map_err) _ (c.judge.ensures.inverted (sym (judged (goal.at.compute-nnzl-requires c).In_ok-map_err)))

pub returns : goal.returns
returns c = record {
  settles = done _ _ _ _ _ _ _ _ _ (accepted (goal.at.returns c).In_ok-map_err) _ _ _ c.compute-nnzl.ensures;
  same = search rules;
}
