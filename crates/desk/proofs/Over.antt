-- Laws of a buffer whose front is written place by place: y's first i, and then what lay there. Assumes nothing.
use Prim.Native.Nat.{ℕ, ◌+◌, ◌<◌, ◌≤◌}
use mathlib.Core.Path.{◌≡◌, sym, ap, ◌∙◌}
use mathlib.Core.List.{List, ◌++◌, append-nil}
use native.Mathlib.Nat.{zero-add}
use native.Mathlib.Numerals.{add-one}
use native.Mathlib.Omega.{arith}
use lib.ListN.{length, get_or, take, drop, set, replicate, length-append, length-replicate, get_or-replicate, length-drop, drop_of_length-le, get_or-append}
use lib.Seq.{paste-suc, take-length, take-append_seam, drop-append_seam}
use Rattle.desk.specs.Lists.{over}

module _ {A : Type 0} (y x : List A) where
  abbrev pub front : ℕ → List A
  front i = take i y ++ drop i x

  pub front_more : (d : A) (i : ℕ) → i < length y → i < length x → set (front i) i (get_or y i d) ≡ front (i + 1)
  front_more d i hy hx = rw add-one (simp zero-add at (paste-suc x 0 y i d (omega arith) hy))

  pub front_all : (i : ℕ) → i ≡ length y → front i ≡ over y x
  unfolding over
  front_all i e = rw (e, take-length)

  pub length_over : length y ≤ length x → length (over y x) ≡ length x
  unfolding over
  length_over h = length-append y (drop (length y) x) ∙ omega (arith, length-drop (length y) x)

  pub get_d_over : (d : A) (i : ℕ) → i < length y → get_or (over y x) i d ≡ get_or y i d
  unfolding over
  get_d_over d i h = get_or-append y (drop (length y) x) d i h

  pub take-over : take (length y) (over y x) ≡ y
  unfolding over
  take-over = take-append_seam y (drop (length y) x)

  -- where the front is all of it
  pub over-whole : length x ≤ length y → over y x ≡ y
  unfolding over
  over-whole h = ap (λ (l : List A). y ++ l) (drop_of_length-le x h) ∙ append-nil y

-- the front of a written table, where it is n long
pub take-written : {A : Type 0} (n : ℕ) (y x l : List A) → l ≡ over y x → length y ≡ n → take n l ≡ y
take-written n y x l e h = rw (e, ← h) (take-over y x)

-- what is written over a front just as long
pub over-over : {A : Type 0} (y z x : List A) → length y ≡ length z → over y (over z x) ≡ over y x
unfolding over
over-over y z x e = rw (e, drop-append_seam z (drop (length z) x))

pub length_filled : {A : Type 0} (n : ℕ) (v : A) (x : List A) → n ≤ length x → length (over (replicate n v) x) ≡ length x
length_filled n v x h = length_over (replicate n v) x (omega (arith, length-replicate n v))

-- a front that is filled with one value
module _ {A : Type 0} (n : ℕ) (v : A) (x : List A) (long : n ≤ length x) where
  pub fill_more : (i : ℕ) → i < n → (l : List A) → l ≡ front (replicate n v) x i → set l i v ≡ front (replicate n v) x (i + 1)
  fill_more i h l e =
      rw e (ap (set (front (replicate n v) x i) i) (sym (get_or-replicate n i v v h))
      ∙ front_more (replicate n v) x v i (omega (arith, length-replicate n v)) (omega arith))

  pub fill_all : (i : ℕ) → i ≤ n → n ≤ i → (l : List A) → l ≡ front (replicate n v) x i → l ≡ over (replicate n v) x
  fill_all i h g l e = e ∙ front_all (replicate n v) x i (omega (arith, length-replicate n v))
