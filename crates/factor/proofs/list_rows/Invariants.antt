-- `factor::list_rows` meets its contract. The invariant: the rows below k are listed, and no mark is set.
-- Assumes nothing.
use Rattle.factor.proofs.LogicalTables.{Below}
use Rattle.factor.proofs.list_rows.Given as goal

abbrev pub invariant-loop-k : goal.invariant-loop-k
invariant-loop-k l = Below l.a.colptr.now l.a.rowval.now l.etree l.k l.initial.li l.li l.next l.marks
