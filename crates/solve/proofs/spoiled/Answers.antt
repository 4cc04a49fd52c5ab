-- `solve::spoiled` meets its contract: the three tests before the columns, and the columns. Assumes nothing.
use Rattle.std.proofs.Common.{rules, ◌∙◌}
use Rattle.solve.proofs.Sound.{spoiled_is, spoiled_empty}
use Rattle.solve.proofs.spoiled.Goals as goal

pub returns-then-is_empty : goal.returns-then-is_empty
returns-then-is_empty c = spoiled_empty _ _ _ _ (search rules)

pub returns-then-bad_pointers-l : goal.returns-then-bad_pointers-l
returns-then-bad_pointers-l c = spoiled_is _ _ _ _ c.wide-last.ensures c.bad_pointers.ensures c.if-bad_pointers-l.true

pub returns : goal.returns
returns c = c.strays.ensures ∙ spoiled_is _ _ _ _ c.wide-last.ensures c.bad_pointers.ensures c.if-bad_pointers-l.false
