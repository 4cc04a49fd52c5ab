-- `row::list_row` meets its contract, from those of its two steps. Assumes nothing.
use Rattle.row.proofs.Lists.{list_reachable, list_start, list_row_done}
use Rattle.row.proofs.list_row.Goals as goal

pub reach-top-requires : goal.reach-top-requires
reach-top-requires c = (_, list_reachable _ _ _ _ _ _ _ _ _ c.requires.1.1)

pub list_all-requires : goal.list_all-requires
list_all-requires c = (_, (_, list_start _ _ _ _ _ _ _ _ _ c.requires.1.1 _ _ _ c.reach-top.ensures c.reach-top.auto.marks))

pub returns : goal.returns
returns c =
    λ g old b.
    let e = c.reach-top.ensures in
    let m = c.reach-top.auto.marks in
    list_row_done g old _ _ _ _ _ _ _ b _ _ _ e m _ _ _ (c.list_all.ensures g old (list_start g old _ _ _ _ _ _ _ b _ _ _ e m))
