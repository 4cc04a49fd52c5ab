use Prim.Native.Nat.{ℕ, ◌+◌, ◌<◌, ◌^◌}
use mathlib.Core.Bool.{Bool}
use mathlib.Core.List.{List, ◌∷◌}
use native.Mathlib.Omega.{arith}
use lib.ListN.{length, get_or, drop, drop_of_length-le}
use Rattle.row.specs.Kernels.{Listing}
use Rattle.row.proofs.Lists.{list_column, list_place, list_more, list_done}
use Rattle.row.proofs.Turns.{column-at}
use Rattle.row.proofs.list_all.Goals as goal
use Rattle.row.proofs.list_all.Goals.{After-wide, After-wide-col}

abbrev after : After-wide-col → List ℕ
after c = drop (c.loop-column.column-index + 1) c.args.columns.now

-- what is listed so far, in the graph and over what the caller showed
ahead : (c : After-wide-col) (g : ℕ → ℕ → Bool) (old : List ℕ) →
    let a = c.args in
    let at = c.loop-column in
    Listing g (length a.marks.now) a.k old a.columns.now a.li.now a.next.now a.marks.now →
    Listing g (length a.marks.now) a.k old (c.wide-col.result ∷ after c) at.li at.next at.marks
ahead c g old b = rw (column-at c.args.columns.now c.loop-column-test.true c.wide-col.ensures) at (c.loop-column.invariant g old b)

-- so the column is inside the tables, and so is its free place
column : (c : After-wide-col) → (c.wide-col.result < length c.loop-column.next) × (c.wide-col.result < length c.loop-column.marks) × (c.wide-col.result < 2 ^ 32)
column c = list_column _ _ _ _ _ _ _ _ _ (ahead c _ _ c.requires.1.1)

place : (c : After-wide) →
    let at = c.loop-column in
    (get_or at.next c.wide-col.result 0 < length at.li) × (get_or at.next c.wide-col.result 0 + 1 < 2 ^ 32)
place c = list_place _ _ _ _ _ _ _ _ _ (rw (column-at c.args.columns.now c.loop-column-test.true c.wide-col.ensures) at (c.loop-column.invariant _ _ c.requires.1.1))

pub loop-column-init : goal.loop-column-init
loop-column-init c = λ g old b. b

pub bounds-next-col : goal.bounds-next-col
bounds-next-col c = (column (goal.at.bounds-next-col c).After-wide-col).0

pub bounds-li-wide : goal.bounds-li-wide
bounds-li-wide c = omega (arith, place (goal.at.bounds-li-wide c).After-wide, c.wide-col.ensures)

pub overflow_add-next : goal.overflow_add-next
overflow_add-next c = omega (arith, place (goal.at.overflow_add-next c).After-wide)

pub bounds-next-col-in-loop-column : goal.bounds-next-col-in-loop-column
bounds-next-col-in-loop-column c = (column (goal.at.bounds-next-col-in-loop-column c).After-wide-col).0

pub bounds-marks-col : goal.bounds-marks-col
bounds-marks-col c = (column (goal.at.bounds-marks-col c).After-wide-col).1

pub loop-column-preserved : goal.loop-column-preserved
loop-column-preserved c = λ g old b. rw c.wide.ensures (list_more g _ _ old _ _ _ _ _ (ahead (goal.at.loop-column-preserved c).After-wide-col g old b))

pub returns : goal.returns
returns c =
    λ g old b.
    list_done g _ _ old _ _ _ (rw (drop_of_length-le c.args.columns.now c.loop-column-test.false) at (c.loop-column.invariant g old b))
