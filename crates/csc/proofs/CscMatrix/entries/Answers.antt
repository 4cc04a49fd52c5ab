-- `csc::CscMatrix::entries` meets its contract, by the law of a column whose pointers fit. Assumes nothing.
use Rattle.csc.proofs.Columns.{column_part}
use Rattle.csc.proofs.CscMatrix.entries.Goals as goal

pub returns-clause-rows : goal.returns-clause-rows
returns-clause-rows c =
    let p = c.wide-first.ensures in
    let q = c.wide-last.ensures in
    column_part _ _ _ p q c.requires.pointers (rw (p, q) c.requires.rises) (rw q c.requires.in_rows)

pub returns-clause-values : goal.returns-clause-values
returns-clause-values c =
    let p = c.wide-first.ensures in
    let q = c.wide-last.ensures in
    column_part _ _ _ p q c.requires.pointers (rw (p, q) c.requires.rises) (rw q c.requires.in_values)
