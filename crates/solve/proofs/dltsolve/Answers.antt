use Prim.Native.Nat.{◌-◌, ◌<◌}
use mathlib.Core.Path.{refl, ◌∙◌}
use native.Mathlib.Omega.{arith}
use lib.ListN.{length}
use Rattle.solve.proofs.Solves.{dltsolved_more, dltsolved-done}
use Rattle.solve.proofs.Sound.{lent}
use Rattle.solve.proofs.dltsolve.Goals as goal

pub entries-requires : goal.entries-requires
entries-requires c =
    let column = lent c.requires.factored (omega (arith, c.loop-i.auto.i, c.loop-i-test.true)) in
    record {
      pointers = column.pointers;
      rises = column.rises;
      in_rows = column.in_rows;
      in_values = column.in_values;
    }

pub gather-requires : goal.gather-requires
gather-requires c =
    let inside : c.loop-i.i - 1 < length c.args.x.now = omega (arith, c.loop-i.auto.i, c.loop-i-test.true) in
    let column = lent c.requires.factored inside in
    rw (c.entries.ensures.rows, c.entries.ensures.values) (record { rows_len = column.as_many; by_index = λ k h. omega (arith, column.below k h, c.loop-i.auto.x) })

pub loop-i-preserved : goal.loop-i-preserved
loop-i-preserved c =
    dltsolved_more _ _ _ _ _ _ c.loop-i-test.true refl c.entries.ensures.rows c.entries.ensures.values c.gather.ensures ∙ c.loop-i.invariant

pub returns : goal.returns
returns c = dltsolved-done _ _ _ _ _ _ c.loop-i-test.false ∙ c.loop-i.invariant
