-- Laws of the numbers in a row: their length, what stands at a place of a list made of them, and what is tested of each. Assumes nothing.
use Prim.Native.Nat.{ℕ, zero, suc, ◌+◌, ◌<◌, ◌≤◌}
use mathlib.Core.Path.{◌≡◌, refl, sym, ap, subst, ◌∙◌}
use mathlib.Core.Bool.{Bool, true}
use mathlib.Core.List.{List, [], ◌∷◌, ◌++◌, map}
use native.Mathlib.Nat.{zero-add}
use native.Mathlib.Decide.{ℕ_discrete}
use native.Mathlib.Numerals.{add-one}
use native.Mathlib.Omega.{arith}
use lib.ListN.{length, get_or, length-map}
use Rattle.std.specs.List.{range_with_len}
use Rattle.desk.specs.Lists.{from, upto, all}
use Rattle.desk.proofs.Both.{both}

-- the numbers from i on are the library's
pub from_range : (i k : ℕ) → from i k ≡ range_with_len i k
unfolding from
from_range i zero = refl
from_range i (suc k) = ap (λ (l : List ℕ). i ∷ l) (from_range (suc i) k ∙ ap (λ j. range_with_len j k) (sym (add-one i)))

-- one number more
pub from_more : (i k : ℕ) → from i (suc k) ≡ from i k ++ ((i + k) ∷ [])
unfolding from
from_more i zero = ap (λ (x : ℕ). x ∷ []) (omega arith)
from_more i (suc k) = ap (λ (l : List ℕ). i ∷ l) (from_more (suc i) k ∙ ap (λ (x : ℕ). from (suc i) k ++ (x ∷ [])) (omega arith))

pub upto_more : (n : ℕ) → upto (suc n) ≡ upto n ++ (n ∷ [])
upto_more n = rw (← from_range 0 (suc n), ← from_range 0 n) (from_more 0 n ∙ ap (λ (k : ℕ). from 0 n ++ (k ∷ [])) (zero-add n))

pub length_from : (i k : ℕ) → length (from i k) ≡ k
unfolding from
length_from i zero = refl
length_from i (suc k) = ap suc (length_from (suc i) k)

pub length_upto : (n : ℕ) → length (upto n) ≡ n
length_upto n = rw (← from_range 0 n) (length_from 0 n)

module _ {A : Type 0} (f : ℕ → A) (d : A) where
  pub get_or-from : (i k j : ℕ) → j < k → get_or (map f (from i k)) j d ≡ f (i + j)
  unfolding from
  get_or-from i zero j h = absurd (omega arith)
  get_or-from i (suc k) zero h = ap f (omega arith)
  get_or-from i (suc k) (suc j) h = get_or-from (suc i) k j (omega arith) ∙ ap f (omega arith)

  pub get_or-upto : (n j : ℕ) → j < n → get_or (map f (upto n)) j d ≡ f j
  get_or-upto n j h = rw (← from_range 0 n) (get_or-from 0 n j h) ∙ ap f (zero-add j)

pub length-upto : {A : Type 0} (f : ℕ → A) (n : ℕ) → length (map f (upto n)) ≡ n
length-upto f n = length-map (upto n) f ∙ length_upto n

module _ (p : ℕ → Bool) where
  pub all_from : (i k : ℕ) → ((v : ℕ) → i ≤ v → v < i + k → p v ≡ true) → all p (from i k) ≡ true
  unfolding from
  all_from i zero h = refl
  all_from i (suc k) h = rw (h i (omega arith) (omega arith)) (all_from (suc i) k (λ v l u. h v (omega arith) (omega arith)))

  pub each_from : (i k v : ℕ) → all p (from i k) ≡ true → i ≤ v → v < i + k → p v ≡ true
  unfolding from
  each_from i zero v e l u = absurd (omega arith)
  each_from i (suc k) v e l u =
      let b = both (p i) (all p (from (suc i) k)) e in
      elim (ℕ_discrete i v) [ yes q ↦ subst (λ (w : ℕ). p w ≡ true) q b.0 | no ne ↦ each_from (suc i) k v b.1 (omega arith) (omega arith) ]

  pub all-upto : (n : ℕ) → ((v : ℕ) → v < n → p v ≡ true) → all p (upto n) ≡ true
  all-upto n h = rw (← from_range 0 n) (all_from 0 n (λ v l u. h v (omega arith)))

  pub each-upto : (n v : ℕ) → all p (upto n) ≡ true → v < n → p v ≡ true
  each-upto n v e h = each_from 0 n v (rw (← from_range 0 n) at e) (omega arith) (omega arith)
