-- Laws of the middle of row k, where column c is the next: its rows and values are the part of the tables from its pointer on, and its turn
-- is one store in each, at one place behind them. Assumes nothing.
use Prim.Native.Nat.{ℕ, ◌+◌, ◌<◌, ◌≤◌}
use mathlib.Core.Path.{◌≡◌}
use mathlib.Core.Bool.{Bool}
use mathlib.Core.List.{List, [], ◌∷◌}
use native.Mathlib.Omega.{arith}
use lib.Ieee.{Float, nan}
use lib.ListN.{length, get_or, set}
use lib.Seq.{slice}
use Rattle.desk.specs.Lists.{total}
use Rattle.tree.specs.Strike.{later, counts, pointers_of_l}
use Rattle.pivot.specs.Pivots.{◌⊗◌}
use Rattle.row.specs.Row.{Row, eliminate}
use Rattle.row.proofs.Members.{in_here}
use Rattle.row.proofs.Shape.{given_most, shape_sized}
use Rattle.row.proofs.Along.{Along, eliminate_clear, along_below, along_joined}
use Rattle.row.specs.Laid.{laid}
use Rattle.row.specs.Kernels.{Sized, given}
use Rattle.row.proofs.OfL.{place_for, store, part}

module _ {g : ℕ → ℕ → Bool} {par : ℕ → ℕ} {n k : ℕ} (kn : k < n) {c : ℕ} {rest : List ℕ} {w z : Row} (x : Along g par n k (c ∷ rest) w z) where
  -- the place of its store is inside
  pub next_place : get_or (pointers_of_l n g) c 0 + length (later k g c) < total (counts n g)
  next_place = place_for n g c k (along_below x) kn (along_joined x)

  next_part : {A : Type 0} (cols : List (List A)) → Sized g n (given (c ∷ rest) k) cols → (old : List A) → total (counts n g) ≤ length old →
      slice (get_or (pointers_of_l n g) c 0) (get_or (pointers_of_l n g) c 0 + length (later k g c)) (laid (pointers_of_l n g) cols old) ≡ get_or cols c []
  next_part cols s old long = rw (in_here c rest) at (part s old (λ i _. given_most (c ∷ rest) k i n kn) long c (omega (arith, along_below x)))

  -- what its turn reads
  pub next_part_li : (old : List ℕ) → total (counts n g) ≤ length old →
      slice (get_or (pointers_of_l n g) c 0) (get_or (pointers_of_l n g) c 0 + length (later k g c)) (laid (pointers_of_l n g) z.rows old) ≡ get_or z.rows c []
  next_part_li = next_part z.rows (shape_sized x.shape)

  pub next_part_lx : (old : List Float) → total (counts n g) ≤ length old →
      slice (get_or (pointers_of_l n g) c 0) (get_or (pointers_of_l n g) c 0 + length (later k g c)) (laid (pointers_of_l n g) z.vals old) ≡ get_or z.vals c []
  next_part_lx = next_part z.vals x.shape.values

  -- what it writes
  pub next-li : (dinv : List Float) (old : List ℕ) →
      laid (pointers_of_l n g) (eliminate_clear k dinv c z).rows old
      ≡ set (laid (pointers_of_l n g) z.rows old) (get_or (pointers_of_l n g) c 0 + length (later k g c)) k
  unfolding eliminate_clear eliminate
  next-li dinv old = store (shape_sized x.shape) old c k k (along_below x) kn (along_joined x) (rw (in_here c rest))

  pub next-lx : (dinv old : List Float) →
      laid (pointers_of_l n g) (eliminate_clear k dinv c z).vals old
      ≡ set (laid (pointers_of_l n g) z.vals old) (get_or (pointers_of_l n g) c 0 + length (later k g c)) (get_or z.y c nan ⊗ get_or dinv c nan)
  unfolding eliminate_clear eliminate
  next-lx dinv old = store x.shape.values old c k (get_or z.y c nan ⊗ get_or dinv c nan) (along_below x) kn (along_joined x) (rw (in_here c rest))
