-- What follows of a matrix that is not malformed for what is said of each entry. Assumes nothing.
use Prim.Native.Nat.{ℕ, zero, suc, ◌+◌, ◌-◌, ◌<◌, ◌≤◌}
use mathlib.Core.Path.{◌≡◌}
use mathlib.Core.List.{List, [], ◌++◌, map}
use native.Mathlib.Nat.{zero-add}
use native.Mathlib.Numerals.{add-one}
use native.Mathlib.Omega.{arith}
use lib.ListN.{length, get_or, length-append, length-map}
use Rattle.desk.specs.Lists.{from, upto, join_all}
use Rattle.desk.proofs.Upto.{from_range}
use Rattle.csc.specs.Csc.{column}
use Rattle.csc.proofs.Formed.{Each, each_append, each_map, Formed, length-column, column-inside}
use Rattle.reorder.specs.Reorder.{per_entry}

module _ (f : ℕ → ℕ → ℕ) (ptr rows : List ℕ) (n c : ℕ) where
  pub entries_more : c < n → per_entry f ptr rows (from c (n - c)) ≡ map (f c) (column ptr rows c) ++ per_entry f ptr rows (from (c + 1) (n - (c + 1)))
  unfolding per_entry join_all from
  entries_more h = let e : n - c ≡ suc (n - suc c) = omega arith in rw (e, add-one c)

  pub entries_none : n ≤ c → per_entry f ptr rows (from c (n - c)) ≡ []
  unfolding per_entry join_all from
  entries_none h = let e : n - c ≡ 0 = omega arith in rw e

module _ {n : ℕ} {ptr rows : List ℕ} (F : Formed n ptr rows) (f : ℕ → ℕ → ℕ) where
  pub length-entries : (c k : ℕ) → c + k ≡ n → get_or ptr c 0 + length (per_entry f ptr rows (from c k)) ≡ length rows
  unfolding per_entry join_all from
  length-entries c zero e = let q : c ≡ n = omega arith in rw q (omega (arith, F.last))
  length-entries c (suc k) e =
      omega (
        arith,
        rw add-one at (length-column F c (omega arith)),
        length-append (map (f c) (column ptr rows c)) (per_entry f ptr rows (from (suc c) k)),
        length-map (column ptr rows c) (f c),
        length-entries (suc c) k (omega arith),
      )

  -- what holds of f at each column and row holds of each entry
  pub each-entry : (m : ℕ) → ((c r : ℕ) → c < n → r < n → f c r < m) → (c k : ℕ) → c + k ≡ n → Each m (per_entry f ptr rows (from c k))
  unfolding per_entry join_all from
  each-entry m h c zero e j l = absurd (omega arith)
  each-entry m h c (suc k) e j l =
      each_append m (map (f c) (column ptr rows c)) (per_entry f ptr rows (from (suc c) k))
      (each_map m (f c) (column ptr rows c) (λ j l. h c (get_or (column ptr rows c) j 0) (omega arith) (column-inside F c (omega arith) j l)))
      (each-entry m h (suc c) k (omega arith))
      j
      l

  -- and so of all the columns
  pub length-entries-upto : get_or ptr 0 0 + length (per_entry f ptr rows (upto n)) ≡ length rows
  length-entries-upto = rw (← from_range 0 n) (length-entries 0 n (zero-add n))

  pub each-entry-upto : (m : ℕ) → ((c r : ℕ) → c < n → r < n → f c r < m) → Each m (per_entry f ptr rows (upto n))
  each-entry-upto m h = rw (← from_range 0 n) (each-entry m h 0 n (zero-add n))
