-- `tree::strike_column` meets its contract. The invariant: each of the first k entries is marked, in whatever graph the tables are of.
-- Assumes nothing.
use Rattle.tree.specs.Marks.{Setting, Column}
use Rattle.tree.proofs.Rows.{Entering}
use Rattle.tree.proofs.strike_column.Given as goal

abbrev pub invariant-loop-row : goal.invariant-loop-row
invariant-loop-row l = (s : Setting) → Column s.g l.j l.rows → Entering s l.j l.rows 0 l.initial.work l.initial.lnz l.initial.etree → Entering s l.j l.rows l.row-index l.work l.lnz l.etree
