use Prim.Native.Nat.{ℕ, ◌≤◌, ◌<◌, ◌+◌}
use mathlib.Core.Path.{◌≡◌, refl, sym, ap, ◌∙◌}
use mathlib.Core.List.{List, [], ◌∷◌, ◌++◌}
use native.Mathlib.Omega.{arith}
use native.Mathlib.Numerals.{add-one}
use lib.ListN.{length, get_or, set, length-set}
use lib.Seq.{length-take-le, drop-set-lt}
use Rattle.desk.specs.Lists.{sums, over}
use Rattle.desk.proofs.Over.{front, front_more, front_all}
use Rattle.desk.proofs.Sums.{length-sums, sums_first, sums_next}
use Rattle.csc.proofs.accumulate.Goals as goal

begun : (xs colptr : List ℕ) → 0 < length colptr → set colptr 0 0 ≡ front (sums 0 xs) (set colptr 0 0) (0 + 1)
unfolding sums
begun xs [] h = absurd (omega arith)
begun [] (y ∷ colptr) h = refl
begun (x ∷ xs) (y ∷ colptr) h = refl

module _ (xs : List ℕ) (c : ℕ) where
  next-sum : (acc : ℕ) → c < length xs → acc ≡ get_or (sums 0 xs) c 0 → acc + get_or xs c 0 ≡ get_or (sums 0 xs) (c + 1) 0
  next-sum acc h e = rw (add-one c) (omega (arith, sums_next 0 xs c h))

  module _ (colptr₀ colptr : List ℕ) (room : length xs + 1 ≤ length colptr₀) (e : colptr ≡ front (sums 0 xs) (set colptr₀ 0 0) (c + 1)) where
    more : (acc : ℕ) → c < length xs → acc ≡ get_or (sums 0 xs) (c + 1) 0 → set colptr (c + 1) acc ≡ front (sums 0 xs) (set colptr₀ 0 0) (c + 1 + 1)
    more acc h s =
        rw (e, s) (front_more (sums 0 xs) (set colptr₀ 0 0) 0 (c + 1) (omega (arith, length-sums 0 xs)) (simp length-set (omega arith)))

    done : c ≡ length xs → colptr ≡ over (sums 0 xs) colptr₀
    unfolding over
    done h =
        e
        ∙ front_all (sums 0 xs) (set colptr₀ 0 0) (c + 1) (omega (arith, length-sums 0 xs))
        ∙ ap (λ (l : List ℕ). sums 0 xs ++ l) (drop-set-lt (length (sums 0 xs)) colptr₀ 0 0 (omega (arith, length-sums 0 xs)))

pub loop-c-init : goal.loop-c-init
loop-c-init c = (sym (sums_first 0 _ 0), begun _ c.args.colptr.now (omega arith))

pub overflow_add-acc : goal.overflow_add-acc
overflow_add-acc c =
    let counted = length-take-le c.args.n c.args.counts.now c.requires.n_in_bounds in
    omega (arith, counted, next-sum _ _ _ c.loop-c-test.true c.loop-c.invariant.0, c.requires.by_index (c.loop-c.c + 1) (omega (arith, counted, c.loop-c-test.true)))

pub loop-c-preserved : goal.loop-c-preserved
loop-c-preserved c =
    let counted = length-take-le c.args.n c.args.counts.now c.requires.n_in_bounds in
    let sum = next-sum _ _ _ c.loop-c-test.true c.loop-c.invariant.0 in
    (sum, more _ c.loop-c.c c.args.colptr.now _ (omega (arith, counted)) c.loop-c.invariant.1 _ c.loop-c-test.true sum)

pub returns : goal.returns
returns c =
    let counted = length-take-le c.args.n c.args.counts.now c.requires.n_in_bounds in
    done _ c.loop-c.c c.args.colptr.now _ (omega (arith, counted)) c.loop-c.invariant.1 (omega (arith, c.loop-c-test.false, c.loop-c.auto.c-end))
