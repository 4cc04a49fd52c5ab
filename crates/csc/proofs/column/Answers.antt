-- `csc::column` meets its contract: the part that is lent, by the laws of a column at its two pointers, and nothing where one of them
-- does not serve. Assumes nothing.
use native.Mathlib.Omega.{arith}
use borrow.Author.Rules.{rules}
use Rattle.csc.proofs.Columns.{column_part, column_last, column_falls, column-past}
use Rattle.csc.proofs.column.Goals as goal
use Rattle.csc.proofs.column.Goals.{then-c-colptr+then-c-colptr-2+then-first-last+else-last-rowval, then-c-colptr+then-c-colptr-2+else-first-last, then-c-colptr+else-c-colptr-2, else-c-colptr}

pub returns-then-last-rowval : goal.returns-then-last-rowval
returns-then-last-rowval c = column_part _ _ _ c.wide-first.ensures c.wide-last.ensures (search rules) c.if-first-last.true c.if-last-rowval.true

pub returns : goal.returns
returns c =
    elim c.if-c-colptr.branch [
      | then-c-colptr+then-c-colptr-2+then-first-last+else-last-rowval w ↦ column-past _ _ _ w.wide-first.ensures w.wide-last.ensures w.if-last-rowval.false
      | then-c-colptr+then-c-colptr-2+else-first-last w ↦ column_falls _ _ _ w.wide-first.ensures w.wide-last.ensures w.if-first-last.false
      | then-c-colptr+else-c-colptr-2 w ↦ column_last _ _ _ w.if-c-colptr-2.false
      | else-c-colptr w ↦ column_last _ _ _ (omega (arith, w.if-c-colptr.false))
    ]
