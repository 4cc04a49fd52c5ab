-- `tree::climb` meets its contract. The invariant: the way up from start, in whatever graph the tables are of, stands at i.
-- The measure is how far i is below j. Assumes nothing.
use Prim.Native.Nat.{◌-◌}
use Rattle.tree.specs.Marks.{Setting, Start}
use Rattle.tree.proofs.Ways.{Way}
use Rattle.tree.proofs.climb.Given as goal

abbrev pub invariant-loop-work : goal.invariant-loop-work
invariant-loop-work l = (s : Setting) → Start s l.start l.j l.initial.work l.initial.lnz l.initial.etree → Way s l.start l.j l.i l.initial.work l.work l.lnz l.etree

abbrev pub decreases-loop-work : goal.decreases-loop-work
decreases-loop-work l = l.j - l.i
