-- `factor::logical` meets its contract: L's rows, and the fronts of its other tables filled. Assumes nothing.
use native.Mathlib.Omega.{arith}
use Rattle.factor.proofs.Begins.{lnz-long, pointers_fit}
use Rattle.factor.proofs.LogicalTables.{logical_stored, logical_unlisted, logical-room, logical-done}
use Rattle.factor.proofs.logical.Goals as goal

pub begin-requires : goal.begin-requires
begin-requires c =
    let b = c.requires in
    record {
      counted = omega (arith, lnz-long _ _ _ _ _ _ _ b);
      room = (b.room_pointers, b.room_next, b.room_marks);
      by_index = pointers_fit _ _ _ _ _ _ _ b;
    }

pub list_rows-requires : goal.list_rows-requires
list_rows-requires c =
    logical_unlisted _ _ _ _ _ _ _ c.requires _ _ _ c.begin.ensures.pointers c.begin.ensures.places c.begin.ensures.unmarked

pub fill-requires : goal.fill-requires
fill-requires c =
    omega (arith, c.wide-m.ensures, logical-room _ _ _ _ _ _ _ c.requires _ _ _ c.begin.ensures.pointers c.begin.ensures.places c.begin.ensures.unmarked)

pub diagonals-requires : goal.diagonals-requires
diagonals-requires c = logical_stored _ _ _ _ _ _ _ c.requires

pub returns : goal.returns
returns c =
    logical-done _ _ _ _ _ _ _ c.requires _ _ _ c.begin.ensures.pointers c.begin.ensures.places c.begin.ensures.unmarked
    _ _ _ _ _ c.list_rows.ensures c.wide-m.ensures c.fill.ensures c.diagonals.ensures c.fill-2.ensures
