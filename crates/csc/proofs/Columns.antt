-- What a column is, by cases of its two pointers f and t: the part of the list between them, or nothing. Assumes nothing.
use Prim.Native.Nat.{ℕ, zero, suc, ◌+◌, ◌-◌, ◌≤◌, ◌<◌}
use mathlib.Core.Bool.{and-false}
use mathlib.Core.List.{List, [], ◌∷◌}
use mathlib.Core.Path.{◌≡◌}
use native.Mathlib.Nat.{sub-zero, zero-sub, suc-sub-suc}
use native.Mathlib.Numerals.{add-one}
use borrow.Author.Tests.{lt-ltb, le-ltb, le-leb, lt-leb}
use lib.ListN.{length, get_or, take, drop}
use lib.Seq.{slice, take-nil}
use Rattle.csc.specs.Csc.{column}

module _ {A : Type 0} where
  -- a part by its start and its count is the slice
  pub part_slice : (f t : ℕ) (l : List A) → take (t - f) (drop f l) ≡ slice f t l
  part_slice zero t l = rw sub-zero
  part_slice (suc f) zero l = rw zero-sub
  part_slice (suc f) (suc t) [] = take-nil (suc t - suc f)
  part_slice (suc f) (suc t) (x ∷ l) = rw suc-sub-suc (part_slice f t l)

  module _ (ptr : List ℕ) (l : List A) (c : ℕ) where
    pub column_last : length ptr ≤ c + 1 → [] ≡ column ptr l c
    unfolding column
    column_last h = simp (le-ltb _ _ (rw add-one at h))

    module _ {f t : ℕ} (p : f ≡ get_or ptr c 0) (q : t ≡ get_or ptr (c + 1) 0) where
      pub column_part : c + 1 < length ptr → f ≤ t → t ≤ length l → take (t - f) (drop f l) ≡ column ptr l c
      unfolding column
      column_part h i k = simp (part_slice, ← add-one c, ← p, ← q, lt-ltb _ _ h, le-leb _ _ i, le-leb _ _ k)

      pub column_falls : t < f → [] ≡ column ptr l c
      unfolding column
      column_falls h = simp (← add-one c, ← p, ← q, lt-leb _ _ h, and-false)

      pub column-past : length l < t → [] ≡ column ptr l c
      unfolding column
      column-past h = simp (← add-one c, ← p, ← q, lt-leb _ _ h, and-false)
