-- `figures::largest::write_band` is safe and ends. The invariant: the row is in the band's triangle.
use Rattle.std.proofs.Common.{◌≤◌}
use Rattle.figures.proofs.largest.write_band.Given as goal

abbrev pub invariant-loop-k : goal.invariant-loop-k
invariant-loop-k l = (l.r ≤ l.c) × (l.c ≤ 2048)
