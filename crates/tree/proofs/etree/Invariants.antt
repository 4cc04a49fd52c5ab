-- `tree::etree` meets its contract. The invariant: each column has its rows below j, and no mark is j's or that of a later row.
-- Assumes nothing.
use Rattle.tree.specs.Strike.{entry}
use Rattle.tree.specs.Marks.{Struck}
use Rattle.tree.proofs.etree.Given as goal

abbrev pub invariant-loop-j : goal.invariant-loop-j
invariant-loop-j l = Struck (record { n = l.n; g = entry l.a.colptr.now l.a.rowval.now; work = l.initial.work; lnz = l.initial.lnz; etree = l.initial.etree }) l.j l.work l.lnz l.etree
