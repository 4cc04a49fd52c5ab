-- Document 01: the outcome of the analysis. Assumes nothing.
use Rattle.std.specs.Prelude.{Ok}
use Rattle.desk.specs.Lists.{total}
use Rattle.desk.specs.Desk.{first}
use Rattle.tree.specs.Strike.{counts}
use Rattle.analysis.specs.Analysis.{Written, AnalysisLent, entries_of, analysis_refusals, triangle, joins, analysed_tables}
use Rattle.qdldl.specs.declared.Phase.TheVariants.{Analysed}
use Rattle.qdldl.specs.declared.Status.{Status}
use Rattle.qdldl.specs.Calls.{Outcome, outcome, settled, status}

-- "Analysis may be called from any status; it sets the length of L to the counts' sum, inertia and shifts to 0."
unfoldable pub analysis : Status → AnalysisLent → Outcome Written
analysis s l =
    settled (first (analysis_refusals l)) s l.out
    (outcome (Ok (status Analysed l.n (entries_of l) (total (counts l.n (joins (triangle l)))) 0 0)) (analysed_tables l))
