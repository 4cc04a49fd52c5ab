-- `factor::diagonals` meets its contract. The invariant: the places of D below k are written.
-- Assumes nothing.
use mathlib.Core.Path.{◌≡◌}
use Rattle.desk.proofs.Over.{front}
use Rattle.csc.specs.Csc.{lent}
use Rattle.factor.specs.Steps.{diagonals_of}
use Rattle.factor.proofs.diagonals.Given as goal

abbrev pub invariant-loop-k : goal.invariant-loop-k
invariant-loop-k l = l.d ≡ front (diagonals_of l.n (lent l.a)) l.initial.d l.k
