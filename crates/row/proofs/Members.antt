-- Laws of standing in a list, as the test `any (eqb i)` says it; beside it how often, by `tally`. Assumes nothing.
use Prim.Native.Nat.{ℕ, zero, suc, ◌<◌}
use mathlib.Core.Path.{◌≡◌, refl, sym, ◌∙◌}
use mathlib.Core.Bool.{Bool, true, false, ◌||◌, true≢false}
use mathlib.Core.Logic.{◌⊎◌, inl, inr, ⊎_elim}
use mathlib.Core.List.{List, [], ◌∷◌, ◌++◌}
use native.Mathlib.Omega.{arith}
use native.Mathlib.Decide.{ℕ_discrete}
use borrow.Author.Tests.{eqb-true, eqb-false, eq-eqb, ne_eqb}
use lib.Dec.{eqb}
use lib.ListN.{length, get_or}
use Rattle.desk.specs.Lists.{any, tally}
use Rattle.desk.proofs.Both.{either, neither, cases, is_false}
use Rattle.desk.proofs.Tally.{tally-none, tally-here, tally-past}
use Rattle.row.specs.Kernels.{In, Out}

-- one of the two, and not both
pub in_out : (i : ℕ) (xs : List ℕ) → In i xs → Out i xs → ⊥
in_out i xs a b = true≢false (sym a ∙ b)

pub in_or_out : (i : ℕ) (xs : List ℕ) → In i xs ⊎ Out i xs
in_or_out i xs = go (any (eqb i) xs)
  where
    go : (b : Bool) → (b ≡ true) ⊎ (b ≡ false)
    go true = inl refl
    go false = inr refl

pub out_none : (i : ℕ) → Out i []
out_none i = refl

-- the first of a list stands in it, and so does what stands in the rest
pub in_here : (i : ℕ) (xs : List ℕ) → In i (i ∷ xs)
in_here i xs = rw (eq-eqb i i refl)

pub in_later : (i x : ℕ) (xs : List ℕ) → In i xs → In i (x ∷ xs)
in_later i x xs h = either (eqb i x) h

-- and nothing else does
pub in_cases : (i x : ℕ) (xs : List ℕ) → In i (x ∷ xs) → (i ≡ x) ⊎ In i xs
in_cases i x xs h = ⊎_elim (λ e. inl (eqb-true i x e)) (λ e. inr e) (cases (eqb i x) (any (eqb i) xs) h)

pub in_one : (i x : ℕ) → In i (x ∷ []) → i ≡ x
in_one i x h = ⊎_elim (λ e. e) (λ m. absurd (in_out i [] m (out_none i))) (in_cases i x [] h)

pub out_both : (i x : ℕ) (xs : List ℕ) → (i ≡ x → ⊥) → Out i xs → Out i (x ∷ xs)
out_both i x xs ne h = rw (ne_eqb i x ne) h

-- what stands in a rest where x does not is no x
pub in_not : (i x : ℕ) (xs : List ℕ) → In i xs → Out x xs → i ≡ x → ⊥
in_not i x xs a b e = in_out i xs a (rw e b)

-- two lists one after the other
pub any_append : (p : ℕ → Bool) (xs ys : List ℕ) → any p (xs ++ ys) ≡ (any p xs || any p ys)
any_append p [] ys = refl
any_append p (x ∷ xs) ys = go (p x) (any_append p xs ys)
  where
    go : (b : Bool) → any p (xs ++ ys) ≡ (any p xs || any p ys) → (b || any p (xs ++ ys)) ≡ (b || any p xs || any p ys)
    go true e = refl
    go false e = e

pub in_append : (i : ℕ) (xs ys : List ℕ) → In i (xs ++ ys) → In i xs ⊎ In i ys
in_append i xs ys h = cases (any (eqb i) xs) (any (eqb i) ys) (sym (any_append (eqb i) xs ys) ∙ h)

pub in_back : (i : ℕ) (xs ys : List ℕ) → In i ys → In i (xs ++ ys)
in_back i xs ys h = any_append (eqb i) xs ys ∙ either (any (eqb i) xs) h

pub out_back : (i : ℕ) (xs ys : List ℕ) → Out i (xs ++ ys) → Out i ys
out_back i xs ys o = is_false (any (eqb i) ys) (λ m. in_out i (xs ++ ys) (in_back i xs ys m) o)

pub out_append : (i : ℕ) (xs ys : List ℕ) → Out i xs → Out i ys → Out i (xs ++ ys)
out_append i xs ys a b = any_append (eqb i) xs ys ∙ rw a b

-- by places
pub in_at : (xs : List ℕ) (q : ℕ) → q < length xs → In (get_or xs q 0) xs
in_at [] q h = absurd (omega arith)
in_at (x ∷ xs) zero h = in_here x xs
in_at (x ∷ xs) (suc q) h = in_later (get_or xs q 0) x xs (in_at xs q (omega arith))

-- by how often
pub out-tally : (i : ℕ) (xs : List ℕ) → Out i xs → tally i xs ≡ 0
out-tally i [] h = tally-none i
out-tally i (x ∷ xs) h =
    let b = neither (eqb i x) (any (eqb i) xs) h in
    tally-past i x xs (λ e. eqb-false i x b.0 (sym e)) ∙ out-tally i xs b.1

pub in_tally : (i : ℕ) (xs : List ℕ) → In i xs → 0 < tally i xs
in_tally i [] h = absurd (in_out i [] h (out_none i))
in_tally i (x ∷ xs) h = elim (ℕ_discrete x i) [
  | yes e ↦ rw (e, tally-here i xs) (omega arith)
  | no ne ↦ rw (tally-past i x xs ne) (⊎_elim (λ e. absurd (ne (sym e))) (λ t. in_tally i xs t) (in_cases i x xs h))
]
