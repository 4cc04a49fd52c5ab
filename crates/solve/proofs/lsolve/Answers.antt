use mathlib.Core.Path.{◌∙◌}
use native.Mathlib.Nat.{sub-zero}
use native.Mathlib.Omega.{arith}
use lib.ListN.{length}
use Rattle.desk.proofs.Upto.{from_range}
use Rattle.solve.proofs.Solves.{lsolved_more, lsolved-done}
use Rattle.solve.proofs.Sound.{lent}
use Rattle.solve.proofs.lsolve.Goals as goal

pub loop-i-init : goal.loop-i-init
loop-i-init c = rw (sub-zero, from_range 0 (length c.args.x.now))

pub entries-requires : goal.entries-requires
entries-requires c =
    let column = lent c.requires c.loop-i-test.true in
    record {
      pointers = column.pointers;
      rises = column.rises;
      in_rows = column.in_rows;
      in_values = column.in_values;
    }

pub scatter-requires : goal.scatter-requires
scatter-requires c =
    let column = lent c.requires c.loop-i-test.true in
    rw (c.entries.ensures.rows, c.entries.ensures.values) (record { rows_len = column.as_many; by_index = λ k h. omega (arith, column.below k h, c.loop-i.auto.x) })

pub loop-i-preserved : goal.loop-i-preserved
loop-i-preserved c =
    lsolved_more _ _ _ _ _ _ c.loop-i-test.true c.entries.ensures.rows c.entries.ensures.values c.scatter.ensures ∙ c.loop-i.invariant

pub returns : goal.returns
returns c = lsolved-done _ _ _ _ _ _ c.loop-i-test.false ∙ c.loop-i.invariant
