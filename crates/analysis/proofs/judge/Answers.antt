-- `analysis::judge` meets its contract: behind the tests of size and lengths the calls may be made. Assumes nothing.
use Prim.Native.Nat.{◌≤◌}
use mathlib.Core.Path.{sym, ◌∙◌}
use native.Mathlib.Omega.{arith}
use lib.ListN.{length}
use Rattle.desk.proofs.Both.{good_size}
use Rattle.analysis.proofs.Lengths.{good_lengths}
use Rattle.analysis.proofs.judge.Goals as goal
use Rattle.analysis.proofs.judge.Goals.{Else-bad_size}

-- the size is good behind the second test
sized : (c : Else-bad_size) → c.args.n ≤ 2048
sized c = (good_size c.args.n (length c.args.a.now.rowval.now) (sym c.bad_size.ensures ∙ c.if-bad_size.false)).1

pub bad_lengths-requires : goal.bad_lengths-requires
bad_lengths-requires c = sized (goal.at.bad_lengths-requires c).Else-bad_size

pub invperm-requires : goal.invperm-requires
invperm-requires c =
    let m = good_lengths 0 _ _ _ _ _ _ _ _ (sym c.bad_lengths.ensures ∙ c.if-bad_lengths.false) in record {
      perm_in_bounds = omega (arith, m.ordering, m.room_first);
      perm_len_bound = omega (arith, m.ordering, sized (goal.at.invperm-requires c).Else-bad_size);
    }
