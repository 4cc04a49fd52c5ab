-- Laws of counting: how often a number stands in a list, and how many of a list are below a number. Assumes nothing.
use Prim.Native.Nat.{ℕ, zero, suc, ◌+◌, ◌<◌, ◌≤◌}
use mathlib.Core.Path.{◌≡◌, refl, sym, ap, ◌∙◌}
use mathlib.Core.Bool.{Bool, true, false, cond}
use mathlib.Core.List.{List, [], ◌∷◌, ◌++◌}
use native.Mathlib.Omega.{arith}
use native.Mathlib.Decide.{ℕ_discrete, dec_lt}
use borrow.Author.Tests.{eq-eqb, ne_eqb, lt-ltb, le-ltb}
use lib.Dec.{ltb, eqb}
use lib.ListN.{length, get_or, take, drop, take-append-drop}
use lib.Seq.{take-suc}
use Rattle.desk.specs.Lists.{tally}

pub tally-none : (v : ℕ) → tally v [] ≡ 0
unfolding tally
tally-none v = refl

pub tally-here : (v : ℕ) (xs : List ℕ) → tally v (v ∷ xs) ≡ suc (tally v xs)
unfolding tally
tally-here v xs = rw (eq-eqb v v refl)

pub tally-past : (v x : ℕ) (xs : List ℕ) → (x ≡ v → ⊥) → tally v (x ∷ xs) ≡ tally v xs
unfolding tally
tally-past v x xs ne = rw (ne_eqb x v ne)

one_more : (b : Bool) (m a c : ℕ) → m ≡ a + c → cond b (suc m) m ≡ cond b (suc a) a + c
one_more true m a c e = omega arith
one_more false m a c e = e

pub tally_append : (v : ℕ) (xs ys : List ℕ) → tally v (xs ++ ys) ≡ tally v xs + tally v ys
unfolding tally
tally_append v [] ys = omega arith
tally_append v (x ∷ xs) ys = one_more (eqb x v) (tally v (xs ++ ys)) (tally v xs) (tally v ys) (tally_append v xs ys)

-- the first i of a list, and the rest
pub tally_split : (v i : ℕ) (xs : List ℕ) → tally v xs ≡ tally v (take i xs) + tally v (drop i xs)
tally_split v i xs = ap (tally v) (sym (take-append-drop i xs)) ∙ tally_append v (take i xs) (drop i xs)

-- one element more
pub tally_suc : (v i : ℕ) (xs : List ℕ) → i < length xs → tally v (take (suc i) xs) ≡ tally v (take i xs) + tally v (get_or xs i 0 ∷ [])
tally_suc v i xs h = ap (tally v) (take-suc xs i 0 h) ∙ tally_append v (take i xs) (get_or xs i 0 ∷ [])

-- how many of the list are below n
unfoldable pub below : ℕ → List ℕ → ℕ
below n [] = 0
below n (x ∷ xs) = cond (ltb x n) (suc (below n xs)) (below n xs)

pub below_zero : (xs : List ℕ) → below 0 xs ≡ 0
unfolding below
below_zero [] = refl
below_zero (x ∷ xs) = rw (le-ltb x 0 (omega arith)) (below_zero xs)

-- below n + 1 are those below n and those that are n
pub below_suc : (n : ℕ) (xs : List ℕ) → below (suc n) xs ≡ below n xs + tally n xs
unfolding below tally
below_suc n [] = omega arith
below_suc n (x ∷ xs) =
    let ih = below_suc n xs in
    elim (ℕ_discrete x n) [
      | yes e ↦ rw (lt-ltb x (suc n) (omega arith), le-ltb x n (omega arith), eq-eqb x n e) (omega arith)
      | no ne ↦ elim (dec_lt x n) [
        | yes l ↦ rw (lt-ltb x (suc n) (omega arith), lt-ltb x n l, ne_eqb x n ne) (omega arith)
        | no g ↦ rw (le-ltb x (suc n) (omega arith), le-ltb x n (omega arith), ne_eqb x n ne) ih
      ]
    ]

pub below_le : (n : ℕ) (xs : List ℕ) → below n xs ≤ length xs
unfolding below
below_le n [] = omega arith
below_le n (x ∷ xs) =
    let ih = below_le n xs in
    elim (dec_lt x n) [ yes l ↦ rw (lt-ltb x n l) (omega arith) | no g ↦ rw (le-ltb x n (omega arith)) (omega arith) ]

pub below_all : (n : ℕ) (xs : List ℕ) → ((k : ℕ) → k < length xs → get_or xs k 0 < n) → below n xs ≡ length xs
unfolding below
below_all n [] h = refl
below_all n (x ∷ xs) h = rw (lt-ltb x n (h 0 (omega arith))) (ap suc (below_all n xs (λ k l. h (suc k) (omega arith))))

pub below_missing : (n : ℕ) (xs : List ℕ) (i : ℕ) → i < length xs → n ≤ get_or xs i 0 → below n xs < length xs
unfolding below
below_missing n [] i h g = absurd (omega arith)
below_missing n (x ∷ xs) zero h g = rw (le-ltb x n g) (omega (arith, below_le n xs))
below_missing n (x ∷ xs) (suc i) h g =
    let ih = below_missing n xs i (omega arith) g in
    elim (dec_lt x n) [ yes l ↦ rw (lt-ltb x n l) (omega arith) | no le ↦ rw (le-ltb x n (omega arith)) (omega arith) ]

-- where each number below n stands at most once and n of the list are below n, each stands once
pub pigeonhole : (n : ℕ) (xs : List ℕ) → ((v : ℕ) → v < n → tally v xs ≤ 1) → below n xs ≤ n
pigeonhole zero xs h = omega (arith, below_zero xs)
pigeonhole (suc n) xs h = omega (arith, below_suc n xs, h n (omega arith), pigeonhole n xs (λ v l. h v (omega arith)))

pub each_once : (n : ℕ) (xs : List ℕ) → ((v : ℕ) → v < n → tally v xs ≤ 1) → n ≤ below n xs → (v : ℕ) → v < n → tally v xs ≡ 1
each_once zero xs h f v l = absurd (omega arith)
each_once (suc n) xs h f v l =
    let less : (w : ℕ) → w < n → tally w xs ≤ 1 = λ w k. h w (omega arith) in
    let full : n ≤ below n xs = omega (arith, below_suc n xs, h n (omega arith)) in
    elim (ℕ_discrete v n) [
      | yes e ↦ omega (arith, below_suc n xs, pigeonhole n xs less, h v l, ap (λ (w : ℕ). tally w xs) e)
      | no ne ↦ each_once n xs less full v (omega arith)
    ]

-- where each number below n stands once, n of the list are below n
pub below_once : (n : ℕ) (xs : List ℕ) → ((v : ℕ) → v < n → tally v xs ≡ 1) → below n xs ≡ n
below_once zero xs h = below_zero xs
below_once (suc n) xs h = omega (arith, below_suc n xs, h n (omega arith), below_once n xs (λ v l. h v (omega arith)))
