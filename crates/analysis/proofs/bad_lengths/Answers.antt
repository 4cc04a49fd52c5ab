-- `analysis::bad_lengths` meets its contract: the tests are the definition's, the last of them a call's.
-- Assumes nothing.
use Rattle.analysis.specs.Analysis.{bad_lengths}
use Rattle.analysis.proofs.bad_lengths.Goals as goal

pub returns : goal.returns
unfolding bad_lengths
returns c = rw c.short_scratch.ensures
