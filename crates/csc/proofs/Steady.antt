-- What pointers have that start at 0, do not fall and end at m, and what follows of the part that a column is. Assumes nothing.
use Prim.Native.Nat.{ℕ, zero, suc, ◌+◌, ◌-◌, ◌<◌, ◌≤◌}
use mathlib.Core.Path.{◌≡◌, refl}
use mathlib.Core.Bool.{false, not, ◌||◌}
use mathlib.Core.List.{List, [], ◌∷◌}
use native.Mathlib.Numerals.{add-one}
use native.Mathlib.Omega.{arith}
use borrow.Author.Tests.{not-false, eqb-true, ltb-false}
use lib.Dec.{eqb, ltb}
use lib.ListN.{length, get_or, take, drop, length-drop}
use lib.Seq.{length-take-le}
use Rattle.desk.proofs.Any.{none_upto}
use Rattle.desk.proofs.Both.{neither}
use Rattle.csc.specs.Csc.{column, fall, bad_pointers}
use Rattle.csc.proofs.Columns.{column_part}

module _ (n : ℕ) (ptr : List ℕ) where
  pub not_falling : length ptr ≡ n + 1 → fall ptr ≡ false → (c : ℕ) → c < n → get_or ptr c 0 ≤ get_or ptr (c + 1) 0
  unfolding fall
  not_falling s e c h =
      rw (add-one c)
      (ltb-false _ _ (none_upto (λ c. ltb (get_or ptr (suc c) 0) (get_or ptr c 0)) (length ptr - 1) c e (omega arith)))

  module _ (rises : (c : ℕ) → c < n → get_or ptr c 0 ≤ get_or ptr (c + 1) 0) where
    pub up_to_last : (c k : ℕ) → c + k ≡ n → get_or ptr c 0 ≤ get_or ptr n 0
    up_to_last c zero e = let q : c ≡ n = omega arith in rw q (omega arith)
    up_to_last c (suc k) e = omega (arith, rises c (omega arith), up_to_last (c + 1) k (omega arith))

pub record Steady (n m : ℕ) (ptr : List ℕ) : Type 0 where
  pub pointers : length ptr ≡ n + 1
  pub first : get_or ptr 0 0 ≡ 0
  pub rises : (c : ℕ) → c < n → get_or ptr c 0 ≤ get_or ptr (c + 1) 0
  pub last : get_or ptr n 0 ≡ m

start : (ptr : List ℕ) → 0 < length ptr → get_or ptr 0 1 ≡ 0 → get_or ptr 0 0 ≡ 0
start [] h e = absurd (omega arith)
start (x ∷ ptr) h e = e

pub steady : (n m : ℕ) (ptr : List ℕ) → length ptr ≡ n + 1 → bad_pointers m ptr ≡ false → Steady n m ptr
unfolding bad_pointers
steady n m ptr s e =
    let end : length ptr - 1 ≡ n = omega arith in
    let later = neither (not (eqb (get_or ptr 0 1) 0)) (fall ptr || not (eqb (get_or ptr (length ptr - 1) 0) m)) e in
    let falls = neither (fall ptr) (not (eqb (get_or ptr (length ptr - 1) 0) m)) later.1 in
    record {
      pointers = s;
      first = start ptr (omega arith) (eqb-true _ _ (not-false _ later.0));
      rises = not_falling n ptr s falls.0;
      last = rw end at (eqb-true (get_or ptr (length ptr - 1) 0) m (not-false _ falls.1));
    }

module _ {n m : ℕ} {ptr : List ℕ} (S : Steady n m ptr) where
  -- column c, as the part from a to e
  module _ {c a e : ℕ} (h : c < n) (p : a ≡ get_or ptr c 0) (q : e ≡ get_or ptr (c + 1) 0) where
    pub part_rises : a ≤ e
    part_rises = omega (arith, S.rises c h)

    pub part_ends : e ≤ m
    part_ends = omega (arith, up_to_last n ptr S.rises (c + 1) (n - (c + 1)) (omega arith), S.last)

    module _ {A : Type 0} (l : List A) (long : m ≤ length l) where
      pub part_column : take (e - a) (drop a l) ≡ column ptr l c
      part_column = column_part ptr l c p q (omega (arith, S.pointers)) part_rises (omega (arith, part_ends))

      pub part_length : length (take (e - a) (drop a l)) ≡ e - a
      part_length = length-take-le (e - a) (drop a l) (omega (arith, length-drop a l, part_ends))

  -- what `entries` asks of column c, and that it is as long as its pointers are apart
  module _ {c : ℕ} (h : c < n) where
    pub column_pointers : c + 1 < length ptr
    column_pointers = omega (arith, S.pointers)

    pub column_rises : get_or ptr c 0 ≤ get_or ptr (c + 1) 0
    column_rises = S.rises c h

    pub column_ends : get_or ptr (c + 1) 0 ≤ m
    column_ends = part_ends h refl refl

    pub column_length : {A : Type 0} (l : List A) → m ≤ length l → length (column ptr l c) ≡ get_or ptr (c + 1) 0 - get_or ptr c 0
    column_length l long = rw (← part_column h refl refl l long) (part_length h refl refl l long)
