-- `row::row_of` meets its contract, from those of its three steps. Assumes nothing.
use Prim.Native.Nat.{ℕ}
use mathlib.Core.Bool.{Bool}
use Rattle.row.specs.Kernels.{Lists, Rowable}
use Rattle.row.proofs.Rows.{spreadable, reachable, row-ordered, row_done}
use Rattle.row.proofs.row_of.Goals as goal
use Rattle.row.proofs.row_of.Goals.{Start}

abbrev Lent : Start → (ℕ → ℕ → Bool) → Lists → Type 0
Lent e g s =
    let a = e.args in
    Rowable g s a.k a.rows.now a.vals.now a.etree.now a.lp.now a.li.now a.next.now a.marks.now a.order.now a.lx.now a.dinv.now a.y.now

pub spread-d-requires : goal.spread-d-requires
spread-d-requires c =
    record {
      rows_len = c.requires.1.1.values;
      by_index = spreadable _ _ _ _ _ _ _ _ _ _ _ _ _ _ c.requires.1.1;
    }

pub reach-top-requires : goal.reach-top-requires
reach-top-requires c = (_, reachable _ _ _ _ _ _ _ _ _ _ _ _ _ _ c.requires.1.1)

pub eliminate_all-requires : goal.eliminate_all-requires
eliminate_all-requires c =
    (_, row-ordered _ _ _ _ _ _ _ _ _ _ _ _ _ _ c.requires.1.1 _ _ _ _ _ c.spread-d.ensures.0 c.spread-d.ensures.1 c.reach-top.ensures c.reach-top.auto.marks)

pub returns : goal.returns
returns c =
    λ g s b.
    let ey = c.spread-d.ensures.0 in
    let ed = c.spread-d.ensures.1 in
    let sm = c.reach-top.auto.marks in
    row_done _ _ _ _ _ _ _ _ _ _ _ _ _ _ b _ _ _ _ _ ey ed c.reach-top.ensures sm _ _ _ _ _ _
    (c.eliminate_all.ensures _ (row-ordered _ _ _ _ _ _ _ _ _ _ _ _ _ _ b _ _ _ _ _ ey ed c.reach-top.ensures sm))
