-- `analysis::compute` meets its contract: each call asks what the laws of the steps give, and the last of them puts the tables together.
-- Assumes nothing.
use mathlib.Core.Path.{sym}
use Prim.Native.Nat.{◌≤◌}
use lib.ListN.{length}
use native.Mathlib.Omega.{arith}
use lib.Seq.{length-take-le}
use Rattle.analysis.proofs.Analysed.{reorderable, signs_fit, upper, computed}
use Rattle.analysis.proofs.compute.Goals as goal

pub permute_symmetric-requires : goal.permute_symmetric-requires
permute_symmetric-requires c = reorderable _ _ _ _ _ _ _ c.requires

pub etree-requires : goal.etree-requires
etree-requires c = upper _ _ _ _ _ _ _ c.requires _ _ c.permute_symmetric.ensures

pub permuted_signs-requires : goal.permuted_signs-requires
permuted_signs-requires c = signs_fit _ _ _ _ _ _ _ c.requires

pub slice_bounds-sum-end : goal.slice_bounds-sum-end
slice_bounds-sum-end c = omega (arith, c.etree.auto.lnz, c.requires.room_counts)

pub slice_bounds-sum-end-2 : goal.slice_bounds-sum-end-2
slice_bounds-sum-end-2 c = sym (length-take-le _ _ (omega (arith, c.etree.auto.lnz, c.requires.room_counts)))

pub sum-requires : goal.sum-requires
sum-requires c =
    let room : length c.args.perm.now ≤ length c.etree.new.lnz = omega (arith, c.etree.auto.lnz, c.requires.room_counts) in
    omega (arith, length-take-le _ _ room, c.requires.small)

pub returns : goal.returns
returns c =
    computed _ _ _ _ _ _ _ c.requires _ _ c.permute_symmetric.ensures _ _ c.etree.ensures _ _ c.permuted_signs.ensures c.sum.ensures
