-- Laws of tests: joined by `and` and `or`, and refuted; and what the tests of sizes and lengths say as numbers. Assumes nothing.
use Prim.Native.Nat.{ℕ, ◌<◌, ◌≤◌}
use mathlib.Core.Path.{◌≡◌, refl}
use mathlib.Core.Bool.{Bool, true, false, ◌&&◌, ◌||◌, false≢true, true≢false}
use mathlib.Core.Logic.{◌⊎◌, inl, inr}
use mathlib.Core.List.{List}
use native.Mathlib.Omega.{arith}
use borrow.Author.Tests.{eqb-true, eqb-false, ltb-false, not-false}
use lib.Dec.{eqb, ltb}
use lib.ListN.{length}
use Rattle.desk.specs.Lists.{isnt, short}
use Rattle.desk.specs.Desk.{bad_size}

pub both : (x y : Bool) → (x && y) ≡ true → (x ≡ true) × (y ≡ true)
both true y h = (refl, h)
both false y h = absurd (false≢true h)

pub neither : (x y : Bool) → (x || y) ≡ false → (x ≡ false) × (y ≡ false)
neither true y h = absurd (true≢false h)
neither false y h = (refl, h)

pub either : (x : Bool) {y : Bool} → y ≡ true → (x || y) ≡ true
either true h = refl
either false h = h

pub cases : (x y : Bool) → (x || y) ≡ true → (x ≡ true) ⊎ (y ≡ true)
cases true y h = inl refl
cases false y h = inr h

pub is_true : (b : Bool) → (b ≡ false → ⊥) → b ≡ true
is_true true h = refl
is_true false h = absurd (h refl)

pub is_false : (b : Bool) → (b ≡ true → ⊥) → b ≡ false
is_false true h = absurd (h refl)
is_false false h = refl

pub not_both : (x y : Bool) → (x && y) ≡ false → (x ≡ false) ⊎ (y ≡ false)
not_both true y h = inr h
not_both false y h = inl refl

module _ {A : Type 0} (n : ℕ) (xs : List A) where
  pub is_long : isnt n xs ≡ false → length xs ≡ n
  is_long e = eqb-true (length xs) n (not-false (eqb (length xs) n) e)

  pub has_room : short n xs ≡ false → n ≤ length xs
  has_room e = ltb-false (length xs) n e

-- a size that is not bad
pub good_size : (n m : ℕ) → bad_size n m ≡ false → (0 < n) × (n ≤ 2048) × (m ≤ 65536)
good_size n m e =
    let outer = neither (eqb n 0 || ltb 2048 n) (ltb 65536 m) e in
    let inner = neither (eqb n 0) (ltb 2048 n) outer.0 in
    (omega (arith, eqb-false n 0 inner.0), ltb-false 2048 n inner.1, ltb-false 65536 m outer.1)
