-- `factor::numeric` meets its contract: its rows are lent the fronts of the tables. Assumes nothing.
use native.Mathlib.Omega.{arith}
use Rattle.factor.proofs.Begins.{lnz-long, pointers_fit, numeric_runnable, numeric-done}
use Rattle.factor.proofs.numeric.Goals as goal

pub begin-requires : goal.begin-requires
begin-requires c =
    let b = c.requires.prepared in
    record {
      counted = omega (arith, lnz-long _ _ _ _ _ _ _ b);
      room = (b.room_pointers, b.room_next, b.room_marks);
      by_index = pointers_fit _ _ _ _ _ _ _ b;
    }

pub rows-requires : goal.rows-requires
rows-requires c =
    numeric_runnable _ _ _ _ _ _ _ c.requires.prepared _ _ c.requires.signed _ _ _ _ _
    c.begin.ensures.pointers c.begin.ensures.places c.begin.ensures.unmarked c.fill.ensures c.fill-2.ensures

pub returns : goal.returns
returns c =
    numeric-done _ _ _ _ _ _ _ c.requires.prepared _ _ c.requires.signed _ _ _ _ _
    c.begin.ensures.pointers c.begin.ensures.places c.begin.ensures.unmarked c.fill.ensures c.fill-2.ensures
    _ _ _ _ _ _ c.rows.ensures c.rows.auto.d c.rows.auto.dinv
