-- Laws of the list of the later unknowns that one touches: what it holds, how it grows with each row, and its least. Assumes nothing.
use Prim.Native.Nat.{ℕ, zero, suc, ◌+◌, ◌-◌, ◌<◌, ◌≤◌}
use mathlib.Core.Path.{◌≡◌, refl, sym, ap, ◌∙◌}
use mathlib.Core.Bool.{Bool, true, false, cond, true≢false}
use mathlib.Core.List.{List, [], ◌∷◌, ◌++◌, append-nil}
use native.Mathlib.Omega.{arith}
use native.Mathlib.Decide.{ℕ_discrete, dec_lt}
use borrow.Author.Tests.{lt-ltb}
use lib.ListN.{length, get_or}
use Rattle.desk.specs.Lists.{from, keep, tally}
use Rattle.desk.proofs.Upto.{from_more, get_or-upto, length-upto}
use Rattle.desk.proofs.Tally.{tally-none, tally-here, tally-past}
use Rattle.csc.specs.Csc.{rises}
use Rattle.tree.specs.Strike.{joined, later, none, least_or, parents, counts}
use Rattle.desk.proofs.Both.{is_true}
use Rattle.tree.proofs.Liu.{Parents}

-- ---- the numbers in a row that pass a test

module _ (p : ℕ → Bool) where
  kept : (b : Bool) (x : ℕ) (xs ys : List ℕ) → cond b (x ∷ (xs ++ ys)) (xs ++ ys) ≡ cond b (x ∷ xs) xs ++ ys
  kept true x xs ys = refl
  kept false x xs ys = refl

  pub keep_append : (xs ys : List ℕ) → keep p (xs ++ ys) ≡ keep p xs ++ keep p ys
  keep_append [] ys = refl
  keep_append (x ∷ xs) ys = rw (keep_append xs ys) (kept (p x) x (keep p xs) (keep p ys))

  pub keep_one : (x : ℕ) → p x ≡ true → keep p (x ∷ []) ≡ x ∷ []
  keep_one x h = rw h

  pub keep_no : (x : ℕ) → p x ≡ false → keep p (x ∷ []) ≡ []
  keep_no x h = rw h

  at_most : (b : Bool) (x : ℕ) (xs : List ℕ) (k : ℕ) → length xs ≤ k → length (cond b (x ∷ xs) xs) ≤ suc k
  at_most true x xs k h = omega arith
  at_most false x xs k h = omega arith

  pub length-keep : (i k : ℕ) → length (keep p (from i k)) ≤ k
  unfolding from
  length-keep i zero = omega arith
  length-keep i (suc k) = at_most (p i) i (keep p (from (suc i) k)) k (length-keep (suc i) k)

  -- the first of them is the least
  pub record Least (i v x : ℕ) : Type 0 where
    pub from_on : i ≤ x
    pub least : x ≤ v
    pub passes : p x ≡ true

  least_step : (d i v : ℕ) (b : Bool) → p i ≡ b → (xs : List ℕ) → i ≤ v → (i < v → Least (suc i) v (least_or d xs)) → p v ≡ true → Least i v (least_or d (cond b (i ∷ xs) xs))
  least_step d i v true e xs l r h = record { from_on = omega arith; least = l; passes = e }
  least_step d i v false e xs l r h =
      let ne : (i ≡ v → ⊥) = λ q. true≢false (sym h ∙ rw (← q) e) in
      let x = r (omega arith) in
      record { from_on = omega arith; least = x.least; passes = x.passes }

  pub least_kept : (d i k v : ℕ) → i ≤ v → v < i + k → p v ≡ true → Least i v (least_or d (keep p (from i k)))
  unfolding from
  least_kept d i zero v l u h = absurd (omega arith)
  least_kept d i (suc k) v l u h =
      least_step d i v (p i) refl (keep p (from (suc i) k)) l (λ lt. least_kept d (suc i) k v lt (omega arith) h) h

  -- each of them once, and nothing else
  tally_step : (v i : ℕ) (b : Bool) (xs : List ℕ) → (i ≡ v → ⊥) → tally v (cond b (i ∷ xs) xs) ≡ tally v xs
  tally_step v i true xs ne = tally-past v i xs ne
  tally_step v i false xs ne = refl

  pub tally_early : (i k v : ℕ) → v < i → tally v (keep p (from i k)) ≡ 0
  unfolding from
  tally_early i zero v l = tally-none v
  tally_early i (suc k) v l = tally_step v i (p i) (keep p (from (suc i) k)) (λ e. omega arith) ∙ tally_early (suc i) k v (omega arith)

  pub tally-kept : (i k v : ℕ) → i ≤ v → v < i + k → p v ≡ true → tally v (keep p (from i k)) ≡ 1
  unfolding from
  tally-kept i zero v l u h = absurd (omega arith)
  tally-kept i (suc k) v l u h =
      elim (ℕ_discrete i v) [
        | yes e ↦ rw (e, h) (tally-here v (keep p (from (suc v) k)) ∙ ap suc (tally_early (suc v) k v (omega arith)))
        | no ne ↦ tally_step v i (p i) (keep p (from (suc i) k)) ne ∙ tally-kept (suc i) k v (omega arith) (omega arith) h
      ]

  pub tally_else : (i k v : ℕ) → p v ≡ false → tally v (keep p (from i k)) ≡ 0
  unfolding from
  tally_else i zero v h = tally-none v
  tally_else i (suc k) v h =
      elim (ℕ_discrete i v) [
        | yes e ↦ rw (e, h) (tally_else (suc v) k v h)
        | no ne ↦ tally_step v i (p i) (keep p (from (suc i) k)) ne ∙ tally_else (suc i) k v h
      ]

  pub tally_past_end : (i k v : ℕ) → i + k ≤ v → tally v (keep p (from i k)) ≡ 0
  unfolding from
  tally_past_end i zero v u = tally-none v
  tally_past_end i (suc k) v u = tally_step v i (p i) (keep p (from (suc i) k)) (λ e. omega arith) ∙ tally_past_end (suc i) k v (omega arith)

  -- and rising
  first-from : (i k y : ℕ) (ys : List ℕ) → keep p (from i k) ≡ y ∷ ys → i ≤ y
  first-from i k y ys e = elim (dec_lt y i) [
    | yes l ↦ absurd (omega (arith, ap (tally y) e, tally-here y ys, tally_early i k y l))
    | no ge ↦ omega arith
  ]

  rises_step : (i : ℕ) (b : Bool) (xs : List ℕ) → ((y : ℕ) (ys : List ℕ) → xs ≡ y ∷ ys → i < y) → rises xs ≡ true → rises (cond b (i ∷ xs) xs) ≡ true
  unfolding rises
  rises_step i false xs h r = r
  rises_step i true [] h r = refl
  rises_step i true (y ∷ ys) h r = rw (lt-ltb i y (h y ys refl)) r

  pub keep-rises : (i k : ℕ) → rises (keep p (from i k)) ≡ true
  unfolding from rises
  keep-rises i zero = refl
  keep-rises i (suc k) = rises_step i (p i) (keep p (from (suc i) k)) (first-from (suc i) k) (keep-rises (suc i) k)

-- ---- the later unknowns

module _ (g : ℕ → ℕ → Bool) where
  -- nothing is later than i below i + 1
  pub later-none : (n i : ℕ) → n ≤ suc i → later n g i ≡ []
  unfolding later from
  later-none n i h = let e : n - suc i ≡ 0 = omega arith in rw e

  -- with one more row, j is one of them where it is joined to i as i goes
  row_more : (i j : ℕ) → i < j → from (suc i) (suc j - suc i) ≡ from (suc i) (j - suc i) ++ (j ∷ [])
  row_more i j h =
      let e : suc j - suc i ≡ suc (j - suc i) = omega arith in
      let q : suc i + (j - suc i) ≡ j = omega arith in
      rw e (from_more (suc i) (j - suc i) ∙ rw q)

  later_more : (i j : ℕ) → i < j → later (suc j) g i ≡ later j g i ++ keep (λ k. joined g i i k) (j ∷ [])
  unfolding later
  later_more i j h = ap (keep (λ k. joined g i i k)) (row_more i j h) ∙ keep_append (λ k. joined g i i k) (from (suc i) (j - suc i)) (j ∷ [])

  pub later-joined : (i j : ℕ) → i < j → joined g i i j ≡ true → later (suc j) g i ≡ later j g i ++ (j ∷ [])
  later-joined i j h e = later_more i j h ∙ ap (λ (l : List ℕ). later j g i ++ l) (keep_one (λ k. joined g i i k) j e)

  pub later_apart : (i j : ℕ) → i < j → joined g i i j ≡ false → later (suc j) g i ≡ later j g i
  later_apart i j h e = later_more i j h ∙ ap (λ (l : List ℕ). later j g i ++ l) (keep_no (λ k. joined g i i k) j e) ∙ simp append-nil

  pub length-later : (n i : ℕ) → length (later n g i) ≤ n - suc i
  unfolding later
  length-later n i = length-keep (λ k. joined g i i k) (suc i) (n - suc i)

  -- each of them is listed once, nothing else is, and they rise
  pub listed_once : (n i k : ℕ) → i < k → k < n → joined g i i k ≡ true → tally k (later n g i) ≡ 1
  unfolding later
  listed_once n i k l u h = tally-kept (λ k. joined g i i k) (suc i) (n - suc i) k l (omega arith) h

  pub listed-later : (n i k : ℕ) → 0 < tally k (later n g i) → i < k
  unfolding later
  listed-later n i k t = elim (dec_lt i k) [
    | yes l ↦ l
    | no ge ↦ absurd (omega (arith, tally_early (λ k. joined g i i k) (suc i) (n - suc i) k (omega arith)))
  ]

  pub listed_below : (n i k : ℕ) → i < n → 0 < tally k (later n g i) → k < n
  unfolding later
  listed_below n i k h t = elim (dec_lt k n) [
    | yes l ↦ l
    | no ge ↦ absurd (omega (arith, tally_past_end (λ k. joined g i i k) (suc i) (n - suc i) k (omega arith)))
  ]

  pub listed-joined : (n i k : ℕ) → 0 < tally k (later n g i) → joined g i i k ≡ true
  unfolding later
  listed-joined n i k t = is_true (joined g i i k) (λ e. omega (arith, tally_else (λ k. joined g i i k) (suc i) (n - suc i) k e))

  pub later-rises : (n i : ℕ) → rises (later n g i) ≡ true
  unfolding later
  later-rises n i = keep-rises (λ k. joined g i i k) (suc i) (n - suc i)

  -- the first of them is below n
  pub first_below : (n i x : ℕ) (xs : List ℕ) → i < n → later n g i ≡ x ∷ xs → x < n
  first_below n i x xs h e = listed_below n i x h (omega (arith, ap (tally x) e, tally-here x xs))

  -- the least of them, where there is one
  pub least-later : (n i k : ℕ) → i < k → k < n → joined g i i k ≡ true → Least (λ k. joined g i i k) (suc i) k (least_or none (later n g i))
  unfolding later
  least-later n i k l u h = least_kept (λ k. joined g i i k) none (suc i) (n - suc i) k l (omega arith) h

  pub are_parents : (n : ℕ) → Parents g n (λ i. least_or none (later n g i))
  are_parents n = record {
    later = λ i k l u h. (least-later n i k l u h).from_on;
    least = λ i k l u h. (least-later n i k l u h).least;
    touched = λ i k l u h. (least-later n i k l u h).passes;
  }

  -- ---- the tables

  pub length-counts : (n : ℕ) → length (counts n g) ≡ n
  unfolding counts
  length-counts n = length-upto (λ i. length (later n g i)) n

  pub get_or-counts : (n i : ℕ) → i < n → get_or (counts n g) i 0 ≡ length (later n g i)
  unfolding counts
  get_or-counts n i h = get_or-upto (λ i. length (later n g i)) 0 n i h

  pub length-parents : (n : ℕ) → length (parents n g) ≡ n
  unfolding parents
  length-parents n = length-upto (λ i. least_or none (later n g i)) n

  pub get_or-parents : (n i : ℕ) → i < n → get_or (parents n g) i 0 ≡ least_or none (later n g i)
  unfolding parents
  get_or-parents n i h = get_or-upto (λ i. least_or none (later n g i)) 0 n i h

  pub table_parents : (n : ℕ) → Parents g n (λ i. get_or (parents n g) i 0)
  table_parents n = record {
    later = λ i k l u h. rw (get_or-parents n i (omega arith)) ((are_parents n).later i k l u h);
    least = λ i k l u h. rw (get_or-parents n i (omega arith)) ((are_parents n).least i k l u h);
    touched = λ i k l u h. rw (get_or-parents n i (omega arith)) ((are_parents n).touched i k l u h);
  }
