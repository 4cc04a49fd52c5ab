-- What `invperm` answers, and what the permutations ask. Assumes nothing.
use Rattle.std.specs.Prelude.{ℕ, ◌≤◌, ◌≡◌, Bool, true, List, length}
use Rattle.desk.specs.Lists.{over}
use Rattle.order.specs.Order.{is_ordering, inverse}

-- the answer of `invperm`: whether perm is an ordering, and then its inverse at the front of iperm
pub record Inverted (perm iperm₀ iperm : List ℕ) (r : Bool) : Type 0 where
  pub answer : r ≡ is_ordering perm
  pub inverted : r ≡ true → iperm ≡ over (inverse perm) iperm₀

-- what the permutations ask: an ordering, and two lists at least as long
pub record Fitting {A : Type 0} (p : List ℕ) (b x : List A) : Type 0 where
  pub ordering : is_ordering p ≡ true
  pub reads : length p ≤ length b
  pub writes : length p ≤ length x
