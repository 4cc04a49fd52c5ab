-- The pointers: a column begins behind all entries of the columns before it, and the counts of the entries give the pointers. Assumes nothing.
use Prim.Native.Nat.{ℕ, zero, suc, ◌+◌, ◌<◌, ◌≤◌}
use mathlib.Core.Path.{◌≡◌, sym, ap, ◌∙◌}
use mathlib.Core.List.{List, map}
use native.Mathlib.Nat.{zero-add}
use native.Mathlib.Omega.{arith}
use lib.ListN.{length, get_or, take}
use lib.Seq.{ext_get_or, get_or-take, length-take-le}
use Rattle.desk.specs.Lists.{tally, sums, from, upto}
use Rattle.desk.proofs.Sums.{length-sums}
use Rattle.desk.proofs.Tally.{below, below_zero, below_suc}
use Rattle.desk.proofs.Upto.{from_range, length-upto, get_or-upto}
use Rattle.reorder.specs.Reorder.{starts}
use Rattle.reorder.specs.Steps.{advanced}
use Rattle.reorder.proofs.Steps.{advanced-at, length-advanced}

pub length-starts : (n : ℕ) (ks : List ℕ) → length (starts n ks) ≡ suc n
unfolding starts
length-starts n ks = length-sums 0 (map (λ c. tally c ks) (upto n)) ∙ ap suc (length-upto (λ c. tally c ks) n)

module _ (ks : List ℕ) where
  sums_at : (i k j : ℕ) → j ≤ k → get_or (sums (below i ks) (map (λ c. tally c ks) (from i k))) j 0 ≡ below (i + j) ks
  unfolding sums from
  sums_at i zero zero h = ap (λ (v : ℕ). below v ks) (omega arith)
  sums_at i zero (suc j) h = absurd (omega arith)
  sums_at i (suc k) zero h = ap (λ (v : ℕ). below v ks) (omega arith)
  sums_at i (suc k) (suc j) h =
      rw (← below_suc i ks) (sums_at (suc i) k j (omega arith) ∙ ap (λ (v : ℕ). below v ks) (omega arith))

  pub starts-at : (n c : ℕ) → c ≤ n → get_or (starts n ks) c 0 ≡ below c ks
  unfolding starts
  starts-at n c h =
      ap (λ (s : ℕ). get_or (sums s (map (λ c. tally c ks) (upto n))) c 0) (sym (below_zero ks))
      ∙ rw (← from_range 0 n) (sums_at 0 n c h)
      ∙ ap (λ (v : ℕ). below v ks) (zero-add c)

  -- counted from 0, the keys give how often each stands among them
  pub counts : (n : ℕ) (next : List ℕ) → n ≤ length next → ((c : ℕ) → c < n → get_or next c 0 ≡ 0) → take n (advanced ks next) ≡ map (λ c. tally c ks) (upto n)
  counts n next l z =
      let size : length (take n (advanced ks next)) ≡ n = length-take-le n (advanced ks next) (omega (arith, length-advanced ks next)) in
      ext_get_or 0 (take n (advanced ks next)) (map (λ c. tally c ks) (upto n)) (size ∙ sym (length-upto (λ c. tally c ks) n))
      (λ c h.
      let k : c < n = omega arith in
      get_or-take n (advanced ks next) c 0 k ∙ advanced-at ks next c (omega arith) ∙ omega (arith, z c k) ∙ sym (get_or-upto (λ c. tally c ks) 0 n c k))
