-- What a matrix that is not malformed has, and what follows of its columns: its pointers rise to the last, and a column lies between two of
-- them. Assumes nothing.
use Prim.Native.Nat.{ℕ, zero, suc, ◌+◌, ◌-◌, ◌<◌, ◌≤◌}
use mathlib.Core.Path.{◌≡◌, refl, ap}
use mathlib.Core.Bool.{false}
use mathlib.Core.List.{List, [], ◌∷◌, ◌++◌, map}
use native.Mathlib.Omega.{arith}
use borrow.Author.Tests.{leb-false}
use lib.Dec.{leb}
use lib.ListN.{length, get_or, take, drop, length-drop}
use lib.Seq.{get_or-take, get_or-drop, length-take-le}
use Rattle.desk.specs.Lists.{any}
use Rattle.desk.proofs.Any.{none-at}
use Rattle.desk.proofs.Both.{neither}
use Rattle.csc.specs.Csc.{column, bad_pointers, malformed}
use Rattle.csc.proofs.Columns.{column_part}
use Rattle.csc.proofs.Steady.{up_to_last, steady}

-- ---- a list of numbers below m

abbrev pub Each : ℕ → List ℕ → Type 0
Each m xs = (j : ℕ) → j < length xs → get_or xs j 0 < m

pub each_append : (m : ℕ) (xs ys : List ℕ) → Each m xs → Each m ys → Each m (xs ++ ys)
each_append m [] ys hx hy j l = hy j l
each_append m (x ∷ xs) ys hx hy zero l = hx 0 (omega arith)
each_append m (x ∷ xs) ys hx hy (suc j) l = each_append m xs ys (λ i k. hx (suc i) (omega arith)) hy j (omega arith)

pub each_map : (m : ℕ) (f : ℕ → ℕ) (xs : List ℕ) → ((j : ℕ) → j < length xs → f (get_or xs j 0) < m) → Each m (map f xs)
each_map m f [] h j l = absurd (omega arith)
each_map m f (x ∷ xs) h zero l = h 0 (omega arith)
each_map m f (x ∷ xs) h (suc j) l = each_map m f xs (λ i k. h (suc i) (omega arith)) j (omega arith)

-- ---- a matrix

pub record Formed (n : ℕ) (ptr rows : List ℕ) : Type 0 where
  pub pointers : length ptr ≡ n + 1
  pub first : get_or ptr 0 0 ≡ 0
  pub rises : (c : ℕ) → c < n → get_or ptr c 0 ≤ get_or ptr (c + 1) 0
  pub last : get_or ptr n 0 ≡ length rows
  pub inside : Each n rows

pub formed : (n : ℕ) (ptr rows : List ℕ) → length ptr ≡ n + 1 → malformed n ptr rows ≡ false → Formed n ptr rows
unfolding malformed
formed n ptr rows s e =
    let tests = neither (bad_pointers (length rows) ptr) (any (leb n) rows) e in
    let S = steady n (length rows) ptr s tests.0 in
    record {
      pointers = s;
      first = S.first;
      rises = S.rises;
      last = S.last;
      inside = λ j h. leb-false _ _ (none-at (leb n) 0 rows tests.1 j h);
    }

module _ {n : ℕ} {ptr rows : List ℕ} (F : Formed n ptr rows) where
  pub ends : (c : ℕ) → c < n → get_or ptr (c + 1) 0 ≤ length rows
  ends c h = omega (arith, up_to_last n ptr F.rises (c + 1) (n - (c + 1)) (omega arith), F.last)

  pub column_is : {A : Type 0} (l : List A) (c : ℕ) → length l ≡ length rows → c < n → take (get_or ptr (c + 1) 0 - get_or ptr c 0) (drop (get_or ptr c 0) l) ≡ column ptr l c
  column_is l c s h = column_part ptr l c refl refl (omega (arith, F.pointers)) (F.rises c h) (omega (arith, ends c h))

  pub length-column : (c : ℕ) → c < n → get_or ptr c 0 + length (column ptr rows c) ≡ get_or ptr (c + 1) 0
  length-column c h =
      omega (
        arith,
        ap length (column_is rows c refl h),
        length-take-le (get_or ptr (c + 1) 0 - get_or ptr c 0) (drop (get_or ptr c 0) rows) (omega (arith, length-drop (get_or ptr c 0) rows, ends c h)),
        F.rises c h,
      )

  pub column-inside : (c : ℕ) → c < n → Each n (column ptr rows c)
  column-inside c h j l =
      let k : j < get_or ptr (c + 1) 0 - get_or ptr c 0 = omega (arith, length-column c h) in
      rw (← column_is rows c refl h, get_or-take (get_or ptr (c + 1) 0 - get_or ptr c 0) (drop (get_or ptr c 0) rows) j 0 k, get_or-drop)
      (F.inside (get_or ptr c 0 + j) (omega (arith, ends c h)))
