-- What the kernels of the solve ask. Assumes nothing.
use Rattle.std.specs.Prelude.{ℕ, ◌+◌, ◌≤◌, ◌≡◌, true, false, List, Float, length}
use Rattle.order.specs.Order.{is_ordering}
use Rattle.solve.specs.Solve.{spoiled_l}

-- an L of order n that passed its test
pub record Factored (n : ℕ) (lp li : List ℕ) (lx : List Float) : Type 0 where
  pub pointers : length lp ≡ n + 1
  pub sound : spoiled_l n lp li lx ≡ false

-- an ordering, an L of its order, its reciprocals, a right side, and scratch
pub record Solvable (perm lp li : List ℕ) (lx dinv b x : List Float) : Type 0 where
  pub ordering : is_ordering perm ≡ true
  pub factored : Factored (length perm) lp li lx
  pub reciprocals : length dinv ≡ length perm
  pub side : length b ≡ length perm
  pub room : length perm ≤ length x
