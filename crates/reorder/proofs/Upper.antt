-- The reordered triangle is one: column c of it lists those entries that go to c, in their order; its pointers start at 0, do not fall
-- and end at its last entry; and no row exceeds its column. Assumes nothing.
use Prim.Native.Nat.{ℕ, zero, suc, ◌+◌, ◌-◌, ◌<◌, ◌≤◌}
use mathlib.Core.Path.{◌≡◌, refl, sym, ap, ◌∙◌}
use mathlib.Core.Bool.{false}
use mathlib.Core.List.{List, [], ◌∷◌, ◌++◌, map}
use native.Mathlib.Nat.{zero-add, add-zero}
use native.Mathlib.Decide.{ℕ_discrete}
use native.Mathlib.Numerals.{add-one}
use native.Mathlib.Omega.{arith}
use borrow.Author.Tests.{eq-eqb, ne_eqb, le-ltb}
use lib.Dec.{ltb}
use lib.ListN.{length, get_or, take, drop, length-append}
use lib.Seq.{drop-append-add, take_at}
use Rattle.desk.specs.Lists.{any, tally, from, upto, join_all}
use Rattle.desk.proofs.Any.{upto_none}
use Rattle.desk.proofs.Upto.{from_range}
use Rattle.desk.proofs.Sums.{sums_first}
use Rattle.desk.proofs.Tally.{below, below_zero, below_suc, below_all}
use Rattle.csc.specs.Csc.{Csc, column, fall, bad_pointers, not_upper}
use Rattle.csc.proofs.Columns.{column_part}
use Rattle.reorder.specs.Reorder.{new_col, new_row, new_cols, new_rows, per_entry, in_column, gathered, starts, reordered, map_of}
use Rattle.reorder.specs.Kernels.{Reorderable}
use Rattle.csc.proofs.Formed.{Each, Formed, formed}
use Rattle.reorder.proofs.Formed.{length-entries-upto, each-entry-upto}
use Rattle.reorder.proofs.Gather.{length-in_column, below_mono}
use Rattle.reorder.proofs.Starts.{length-starts, starts-at}
use Rattle.reorder.proofs.Steps.{length-places}

module _ {A : Type 0} (ks : List ℕ) (xs : List A) (same : length xs ≡ length ks) where
  pub length-gathered : (i k : ℕ) → length (gathered (from i k) ks xs) + below i ks ≡ below (i + k) ks
  unfolding gathered join_all from
  length-gathered i zero = omega (arith, ap (λ (v : ℕ). below v ks) (add-zero i))
  length-gathered i (suc k) =
      let e : i + suc k ≡ suc i + k = omega arith in
      omega (
        arith,
        length-append (in_column i ks xs) (gathered (from (suc i) k) ks xs),
        length-in_column i ks xs same,
        below_suc i ks,
        length-gathered (suc i) k,
        ap (λ (v : ℕ). below v ks) e,
      )

  pub length-gathered-upto : (n : ℕ) → length (gathered (upto n) ks xs) ≡ below n ks
  length-gathered-upto n =
      rw (← from_range 0 n) (omega (arith, length-gathered 0 n, below_zero ks, ap (λ (v : ℕ). below v ks) (zero-add n)))

  -- behind the columns before it column c begins
  begins : (i k c : ℕ) → i ≤ c → c < i + k → (rest : List A) × (drop (below c ks - below i ks) (gathered (from i k) ks xs) ≡ in_column c ks xs ++ rest)
  unfolding gathered join_all from
  begins i zero c l u = absurd (omega arith)
  begins i (suc k) c l u = elim (ℕ_discrete i c) [
    | yes e ↦
        let z : below c ks - below i ks ≡ 0 = omega (arith, ap (λ (v : ℕ). below v ks) e) in
        (gathered (from (suc i) k) ks xs, rw (z, e))
    | no ne ↦
        let (rest, q) = begins (suc i) k c (omega arith) (omega arith) in
        let split : below c ks - below i ks ≡ length (in_column i ks xs) + (below c ks - below (suc i) ks) =
        omega (arith, length-in_column i ks xs same, below_suc i ks, below_mono (suc i) c ks (omega arith)) in
        (rest, rw split (drop-append-add (in_column i ks xs) (gathered (from (suc i) k) ks xs) (below c ks - below (suc i) ks) ∙ q))
  ]

  -- column c of the gathered list, by its pointers, is those of the xs that go to c
  pub column-gathered : (n c : ℕ) → c < n → Each n ks → column (starts n ks) (gathered (upto n) ks xs) c ≡ in_column c ks xs
  column-gathered n c h b =
      let (rest, q) = begins 0 n c (omega arith) (omega arith) in
      let taken : drop (below c ks - below 0 ks) (gathered (upto n) ks xs) ≡ in_column c ks xs ++ rest = rw (from_range 0 n) at q in
      let front : below c ks - below 0 ks ≡ below c ks = omega (arith, below_zero ks) in
      let size : below (c + 1) ks - below c ks ≡ tally c ks = rw add-one (omega (arith, below_suc c ks)) in
      let long : length (gathered (upto n) ks xs) ≡ below n ks = length-gathered-upto n in
      sym (column_part (starts n ks) (gathered (upto n) ks xs) c (sym (starts-at ks n c (omega arith))) (sym (starts-at ks n (c + 1) (omega arith)))
      (omega (arith, length-starts n ks)) (below_mono c (c + 1) ks (omega arith)) (omega (arith, below_mono (c + 1) n ks (omega arith))))
      ∙ ap (λ (l : List A). take (below (c + 1) ks - below c ks) l) (rw front at taken)
      ∙ ap (λ (k : ℕ). take k (in_column c ks xs ++ rest)) size
      ∙ take_at (in_column c ks xs) rest (tally c ks) (length-in_column c ks xs same)

-- where each entry's new row is at most its new column, no row of column k exceeds it
module _ (f g : ℕ → ℕ → ℕ) (low : (c r : ℕ) → f c r ≤ g c r) (k : ℕ) where
  low_column : (c : ℕ) (rows ks rs : List ℕ) → any (ltb k) (in_column k ks rs) ≡ false → any (ltb k) (in_column k (map (g c) rows ++ ks) (map (f c) rows ++ rs)) ≡ false
  unfolding in_column
  low_column c [] ks rs h = h
  low_column c (r ∷ rows) ks rs h = elim (ℕ_discrete (g c r) k) [
    | yes e ↦ rw (eq-eqb (g c r) k e, le-ltb k (f c r) (omega (arith, low c r))) (low_column c rows ks rs h)
    | no ne ↦ rw (ne_eqb (g c r) k ne) (low_column c rows ks rs h)
  ]

  low_entries : (ptr rows cols : List ℕ) → any (ltb k) (in_column k (per_entry g ptr rows cols) (per_entry f ptr rows cols)) ≡ false
  unfolding per_entry join_all in_column
  low_entries ptr rows [] = refl
  low_entries ptr rows (c ∷ cols) = low_column c (column ptr rows c) (per_entry g ptr rows cols) (per_entry f ptr rows cols) (low_entries ptr rows cols)

starts_first : (n : ℕ) (ks : List ℕ) → get_or (starts n ks) 0 1 ≡ 0
unfolding starts
starts_first n ks = sums_first 0 (map (λ c. tally c ks) (upto n)) 1

module _ (iperm : List ℕ) (A P : Csc) (map₀ next : List ℕ) (R : Reorderable iperm A P map₀ next) where
  abbrev n : ℕ
  n = length iperm

  abbrev ks : List ℕ
  ks = new_cols n iperm A.colptr A.rowval

  F : Formed n A.colptr A.rowval
  F = formed n A.colptr A.rowval R.pointers R.formed

  each : Each n ks
  each = each-entry-upto F (new_col iperm) n (λ c r hc hr. omega (arith, R.inverse c hc, R.inverse r hr))

  length_keys : length ks ≡ length A.rowval
  length_keys = omega (arith, length-entries-upto F (new_col iperm), F.first)

  length-rows : length (new_rows n iperm A.colptr A.rowval) ≡ length A.rowval
  length-rows = omega (arith, length-entries-upto F (new_row iperm), F.first)

  all : below n ks ≡ length A.rowval
  all = below_all n ks each ∙ length_keys

  pub length-colptr : length (reordered n iperm A).colptr ≡ n + 1
  unfolding reordered
  length-colptr = rw add-one (length-starts n ks)

  pub length-rowval : length (reordered n iperm A).rowval ≡ length A.rowval
  unfolding reordered
  length-rowval = length-gathered-upto ks (new_rows n iperm A.colptr A.rowval) (length-rows ∙ sym length_keys) n ∙ all

  pub length-nzval : length (reordered n iperm A).nzval ≡ length A.rowval
  unfolding reordered
  length-nzval = length-gathered-upto ks A.nzval (R.values ∙ sym length_keys) n ∙ all

  pub length-map : length (map_of n iperm A) ≡ length A.rowval
  unfolding map_of
  length-map = length-places ks (starts n ks) ∙ length_keys

  pub reordered-steady : bad_pointers (length A.rowval) (reordered n iperm A).colptr ≡ false
  unfolding reordered bad_pointers fall
  reordered-steady =
      let ptr = starts n ks in
      let first : get_or ptr 0 1 ≡ 0 = starts_first n ks in
      let rises : fall ptr ≡ false = upto_none _ (length ptr - 1) (λ c u.
      le-ltb (get_or ptr (suc c) 0) (get_or ptr c 0) (omega (arith, length-starts n ks, starts-at ks n c (omega (arith, length-starts n ks)), starts-at ks n (suc c) (omega (arith, length-starts n ks)), below_suc c ks))) in
      let end : length ptr - 1 ≡ n = omega (arith, length-starts n ks) in
      let last : get_or ptr (length ptr - 1) 0 ≡ length A.rowval = rw end (starts-at ks n n (omega arith) ∙ all) in
      rw (first, rises, eq-eqb _ _ last)

  pub reordered-upper : not_upper n (reordered n iperm A).colptr (reordered n iperm A).rowval ≡ false
  unfolding reordered not_upper
  reordered-upper = upto_none _ n (λ c u.
      rw (column-gathered ks (new_rows n iperm A.colptr A.rowval) (length-rows ∙ sym length_keys) n c (omega arith) each)
      (low_entries (new_row iperm) (new_col iperm) (λ c r. omega arith) c A.colptr A.rowval (upto n)))
