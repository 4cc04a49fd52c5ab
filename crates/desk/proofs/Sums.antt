-- Laws of the running sums, which are a matrix's pointers: each begins where the one before it ends, so they do not fall. Assumes nothing.
use Prim.Native.Nat.{ℕ, zero, suc, ◌+◌, ◌<◌, ◌≤◌}
use mathlib.Core.Path.{◌≡◌, refl, ap, ◌∙◌}
use mathlib.Core.List.{List, [], ◌∷◌}
use native.Mathlib.Omega.{arith}
use native.Mathlib.Decide.{le_ind}
use lib.ListN.{length, get_or}
use Rattle.desk.specs.Lists.{sums, total}

-- a sum more than numbers
pub length-sums : (s : ℕ) (xs : List ℕ) → length (sums s xs) ≡ suc (length xs)
unfolding sums
length-sums s [] = refl
length-sums s (x ∷ xs) = ap suc (length-sums (s + x) xs)

pub sums_first : (s : ℕ) (xs : List ℕ) (d : ℕ) → get_or (sums s xs) 0 d ≡ s
unfolding sums
sums_first s [] d = refl
sums_first s (x ∷ xs) d = refl

pub sums_next : (s : ℕ) (xs : List ℕ) (c : ℕ) → c < length xs → get_or (sums s xs) (suc c) 0 ≡ get_or (sums s xs) c 0 + get_or xs c 0
unfolding sums
sums_next s [] c h = absurd (omega arith)
sums_next s (x ∷ xs) zero h = sums_first (s + x) xs 0
sums_next s (x ∷ xs) (suc c) h = sums_next (s + x) xs c (omega arith)

-- the last is the sum of all
pub sums_last : (s : ℕ) (xs : List ℕ) → get_or (sums s xs) (length xs) 0 ≡ s + total xs
unfolding sums total
sums_last s [] = omega arith
sums_last s (x ∷ xs) = sums_last (s + x) xs ∙ omega arith

-- and they do not fall
pub sums_rise : (s : ℕ) (xs : List ℕ) (a b : ℕ) → a ≤ b → b ≤ length xs → get_or (sums s xs) a 0 ≤ get_or (sums s xs) b 0
sums_rise s xs a b =
    le_ind (λ b. b ≤ length xs → get_or (sums s xs) a 0 ≤ get_or (sums s xs) b 0) (λ _. omega arith)
    (λ m _ ih h. omega (arith, sums_next s xs m h, ih (omega arith))) b
