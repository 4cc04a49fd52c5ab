-- Demand 3 on parents and counts: at each unknown i the count is how many later unknowns are joined to i as i goes, and the parent is
-- the least of them, or none. The counts of an order that the desk takes fit a table's width. Assumes nothing.
use Prim.Native.Nat.{ℕ, ◌*◌, ◌^◌, ◌<◌, ◌≤◌}
use mathlib.Core.Path.{◌≡◌, refl, ap}
use mathlib.Core.Bool.{Bool, true}
use mathlib.Core.List.{List, [], ◌∷◌, map}
use native.Mathlib.Nat.{mul-le-mul, suc-mul}
use native.Mathlib.Omega.{arith}
use lib.ListN.{length, get_or}
use Rattle.desk.specs.Desk.{max_n}
use Rattle.desk.specs.Lists.{upto, tally, total}
use Rattle.desk.proofs.Tally.{tally-here}
use Rattle.desk.proofs.Upto.{length_upto}
use Rattle.csc.specs.Csc.{rises}
use Rattle.tree.specs.Strike.{joined, later, none, least_or, parents, counts}
use Rattle.tree.proofs.Later.{length-later, listed_once, listed-later, listed_below, listed-joined, later-rises, least-later, get_or-counts, get_or-parents}

-- k is later than i and joined to it when i goes
pub record Joins (n : ℕ) (g : ℕ → ℕ → Bool) (i k : ℕ) : Type 0 where
  pub after : i < k
  pub inside : k < n
  pub touches : joined g i i k ≡ true

-- those k, once each and rising, are `later n g i`; the count is their number, and the parent the least of them
pub record Strikes (n : ℕ) (g : ℕ → ℕ → Bool) (i count parent : ℕ) : Type 0 where
  pub each : (k : ℕ) → Joins n g i k → tally k (later n g i) ≡ 1
  pub only : (k : ℕ) → 0 < tally k (later n g i) → Joins n g i k
  pub rising : rises (later n g i) ≡ true
  pub number : count ≡ length (later n g i)
  pub joins : (k : ℕ) → Joins n g i k → Joins n g i parent
  pub least : (k : ℕ) → Joins n g i k → parent ≤ k
  pub alone : ((k : ℕ) → Joins n g i k → ⊥) → (count ≡ 0) × (parent ≡ none)

module _ (n : ℕ) (g : ℕ → ℕ → Bool) where
  listed-joins : (i k : ℕ) → i < n → 0 < tally k (later n g i) → Joins n g i k
  listed-joins i k h t = record { after = listed-later g n i k t; inside = listed_below g n i k h t; touches = listed-joined g n i k t }

  nothing : (xs : List ℕ) → ((x : ℕ) (ys : List ℕ) → xs ≡ x ∷ ys → ⊥) → (length xs ≡ 0) × (least_or none xs ≡ none)
  nothing [] h = (refl, refl)
  nothing (x ∷ xs) h = absurd (h x xs refl)

  of_later : (i : ℕ) → i < n → Strikes n g i (length (later n g i)) (least_or none (later n g i))
  of_later i h = record {
    each = λ k j. listed_once g n i k j.after j.inside j.touches;
    only = λ k t. listed-joins i k h t;
    rising = later-rises g n i;
    number = refl;
    joins = λ k j.
        let l = least-later g n i k j.after j.inside j.touches in
        record { after = l.from_on; inside = omega (arith, l.least, j.inside); touches = l.passes };
    least = λ k j. (least-later g n i k j.after j.inside j.touches).least;
    alone = λ a. nothing (later n g i) (λ x xs e. a x (listed-joins i x h (omega (arith, ap (tally x) e, tally-here x xs))));
  }

  pub strikes : (i : ℕ) → i < n → Strikes n g i (get_or (counts n g) i 0) (get_or (parents n g) i 0)
  strikes i h = rw (get_or-counts g n i h, get_or-parents g n i h) (of_later i h)

  -- ---- how large the counts are

  pub count_below : (i : ℕ) → i < n → get_or (counts n g) i 0 < n
  count_below i h = omega (arith, get_or-counts g n i h, length-later g n i)

  total_at_most : (xs : List ℕ) → total (map (λ i. length (later n g i)) xs) ≤ length xs * n
  unfolding total
  total_at_most [] = omega arith
  total_at_most (x ∷ xs) = rw (suc-mul (length xs) n) (omega (arith, length-later g n x, total_at_most xs))

  pub total-counts : total (counts n g) ≤ n * n
  unfolding counts
  total-counts = rw (length_upto n) at (total_at_most (upto n))

  -- "n is 1 to 2,048"
  pub counts_fit : n ≤ max_n → total (counts n g) < 2 ^ 32
  counts_fit h = omega (arith, total-counts, mul-le-mul h h)
