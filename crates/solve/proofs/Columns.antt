-- What one column adds to a sum, entry by entry: a turn of the loop over its rows is a step of the definition, and at the end nothing is
-- left. Assumes nothing.
use Prim.Native.Nat.{ℕ, ◌+◌, ◌<◌, ◌≤◌}
use mathlib.Core.Path.{◌≡◌}
use mathlib.Core.List.{List}
use native.Mathlib.Numerals.{add-one}
use lib.Ieee.{Float, nan}
use lib.ListN.{length, get_or, drop, drop_of_length-le}
use lib.Seq.{drop-cons}
use Rattle.pivot.specs.Pivots.{◌⊕◌, ◌⊗◌}
use Rattle.solve.specs.Solve.{summed}

module _ (rows : List ℕ) (vals : List Float) (j : ℕ) where
  pub summed_more : (h : j < length rows) (k : j < length vals) {r : ℕ} (q : r ≡ get_or rows j 0) (x : List Float) (s : Float) →
      summed (drop (j + 1) rows) (drop (j + 1) vals) x (s ⊕ get_or vals j nan ⊗ get_or x r nan) ≡ summed (drop j rows) (drop j vals) x s
  unfolding summed
  summed_more h k q x s = rw (add-one j, q, drop-cons rows j 0 h, drop-cons vals j nan k)

  pub summed-done : length rows ≤ j → (x : List Float) (s : Float) → s ≡ summed (drop j rows) (drop j vals) x s
  unfolding summed
  summed-done h x s = rw (drop_of_length-le rows {i = j} h)
