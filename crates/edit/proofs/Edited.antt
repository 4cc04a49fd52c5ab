-- An edit index by index: a turn of the loop is a step of the definition, and at the end nothing is left. Assumes nothing.
use Prim.Native.Nat.{ℕ, ◌+◌, ◌<◌, ◌≤◌}
use mathlib.Core.Path.{◌≡◌}
use mathlib.Core.List.{List}
use native.Mathlib.Numerals.{add-one}
use lib.Ieee.{Float, nan}
use lib.ListN.{length, get_or, drop, set, drop_of_length-le}
use lib.Seq.{drop-cons}
use Rattle.edit.specs.Edit.{edited}

module _ {A : Type 0} (f : A → Float → Float) (map indices : List ℕ) (args : List A) (vals : List Float) (j : ℕ) {r : List Float}
    (left : edited f map (drop j indices) (drop j args) vals ≡ r) where
  pub edited_more : (d : A) → j < length indices → j < length args → {p : ℕ} {v : Float} → p ≡ get_or map (get_or indices j 0) 0 →
      v ≡ f (get_or args j d) (get_or vals p nan) → edited f map (drop (j + 1) indices) (drop (j + 1) args) (set vals p v) ≡ r
  unfolding edited
  edited_more d h k q e = rw (add-one j, e, q) (rw (drop-cons indices j 0 h, drop-cons args j d k) at left)

  pub edited-done : length indices ≤ j → vals ≡ r
  unfolding edited
  edited-done h = rw (drop_of_length-le indices {i = j} h) at left
