use Rattle.factor.proofs.LogicalTables.{in_pointers, rises, in_rows, in_values, parts_even, diagonals_start, diagonals_more, diagonals_done}
use Rattle.factor.proofs.diagonals.Goals as goal

pub loop-k-init : goal.loop-k-init
loop-k-init c = diagonals_start _ _ _ c.requires

pub entries-requires : goal.entries-requires
entries-requires c =
    let b = c.requires in
    let h = c.loop-k-test.true in
    record {
      pointers = in_pointers _ _ _ b _ h;
      rises = rises _ _ _ b _ h;
      in_rows = in_rows _ _ _ b _ h;
      in_values = in_values _ _ _ b _ h;
    }

pub diagonal-value-requires : goal.diagonal-value-requires
diagonal-value-requires c = parts_even _ _ _ c.requires _ c.loop-k.auto.k c.loop-k-test.true c.entries.ensures.rows c.entries.ensures.values

pub loop-k-preserved : goal.loop-k-preserved
loop-k-preserved c =
    diagonals_more _ _ _ c.requires _ c.loop-k.auto.k c.loop-k-test.true c.entries.ensures.rows c.entries.ensures.values _ c.loop-k.invariant _ c.diagonal-value.ensures

pub returns : goal.returns
returns c = diagonals_done _ _ _ c.requires _ (c.loop-k.auto.k-end c.requires.least) c.loop-k-test.false _ c.loop-k.invariant
