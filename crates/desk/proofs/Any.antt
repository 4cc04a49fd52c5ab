-- Whether one of a list passes a test, by its places. Assumes nothing.
use Prim.Native.Nat.{ℕ, zero, suc, ◌+◌, ◌≤◌, ◌<◌}
use mathlib.Core.Bool.{Bool, true, false, ◌||◌, false≢true}
use mathlib.Core.List.{List, [], ◌∷◌}
use mathlib.Core.Path.{◌≡◌, refl}
use native.Mathlib.Decide.{ℕ_discrete}
use native.Mathlib.Omega.{arith}
use lib.ListN.{length, get_or}
use Rattle.desk.specs.Lists.{any, from, upto}
use Rattle.desk.proofs.Upto.{from_range}
use Rattle.desk.proofs.Both.{either, neither}

-- where one passes, some place holds it; and the other way round
module _ {A : Type 0} (p : A → Bool) (d : A) where
  pub any_at : (xs : List A) (q : ℕ) → q < length xs → p (get_or xs q d) ≡ true → any p xs ≡ true
  any_at [] q h e = absurd (omega arith)
  any_at (x ∷ xs) zero h e = rw e
  any_at (x ∷ xs) (suc q) h e = either (p x) (any_at xs q (omega arith) e)

  pub any_where : (xs : List A) → any p xs ≡ true → (q : ℕ) × (q < length xs) × (p (get_or xs q d) ≡ true)
  any_where [] h = absurd (false≢true h)
  any_where (x ∷ xs) h = go (p x) refl h (any_where xs)
    where
      go : (b : Bool) → p x ≡ b → (b || any p xs) ≡ true → (any p xs ≡ true → (q : ℕ) × (q < length xs) × (p (get_or xs q d) ≡ true)) →
          (q : ℕ) × (q < suc (length xs)) × (p (get_or (x ∷ xs) q d) ≡ true)
      go true e r rest = (0, omega arith, e)
      go false e r rest = let (q, l, t) = rest r in (suc q, omega arith, t)

-- where none passes, each fails; and where each fails, none passes
pub none-at : {A : Type 0} (p : A → Bool) (d : A) (l : List A) → any p l ≡ false → (j : ℕ) → j < length l → p (get_or l j d) ≡ false
none-at p d [] e j h = absurd (omega arith)
none-at p d (x ∷ l) e zero h = (neither (p x) (any p l) e).0
none-at p d (x ∷ l) e (suc j) h = none-at p d l (neither (p x) (any p l) e).1 j (omega arith)

module _ (p : ℕ → Bool) where
  pub none_from : (i k v : ℕ) → any p (from i k) ≡ false → i ≤ v → v < i + k → p v ≡ false
  unfolding from
  none_from i zero v e l u = absurd (omega arith)
  none_from i (suc k) v e l u =
      let b = neither (p i) (any p (from (suc i) k)) e in
      elim (ℕ_discrete i v) [ yes q ↦ rw q at b.0 | no ne ↦ none_from (suc i) k v b.1 (omega arith) (omega arith) ]

  pub from-none : (i k : ℕ) → ((v : ℕ) → i ≤ v → v < i + k → p v ≡ false) → any p (from i k) ≡ false
  unfolding from
  from-none i zero h = refl
  from-none i (suc k) h = rw (h i (omega arith) (omega arith)) (from-none (suc i) k (λ v l u. h v (omega arith) (omega arith)))

  pub none_upto : (n v : ℕ) → any p (upto n) ≡ false → v < n → p v ≡ false
  none_upto n v e h = none_from 0 n v (rw (← from_range 0 n) at e) (omega arith) (omega arith)

  pub upto_none : (n : ℕ) → ((v : ℕ) → v < n → p v ≡ false) → any p (upto n) ≡ false
  upto_none n h = rw (← from_range 0 n) (from-none 0 n (λ v l u. h v (omega arith)))
