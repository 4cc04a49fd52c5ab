-- Where each entry is written to the next free place of its column, and the columns' places lie one after the other, the table's front
-- is the columns one after the other. Assumes nothing.
use Prim.Native.Nat.{ℕ, zero, suc, ◌+◌, ◌<◌, ◌≤◌}
use mathlib.Core.Path.{◌≡◌, refl, sym, ap, ◌∙◌}
use mathlib.Core.List.{List, [], ◌∷◌, ◌++◌, append_assoc}
use native.Mathlib.Nat.{zero-add}
use native.Mathlib.Decide.{ℕ_discrete, dec_lt}
use native.Mathlib.Omega.{arith}
use borrow.Author.Tests.{eq-eqb, ne_eqb}
use lib.ListN.{length, get_or, set, take, drop, length-set, length-append, length-drop, take-append-drop}
use lib.Seq.{get_or-set_same, get_or-set_other, get_or-take, get_or-drop, ext_get_or, drop-drop, length-take-le}
use Rattle.desk.specs.Lists.{tally, from, upto, join_all, over}
use Rattle.desk.proofs.Upto.{from_range}
use Rattle.desk.proofs.Tally.{tally-none, tally-here, tally-past, below, below_zero, below_suc, below_le, below_all}
use Rattle.csc.proofs.Formed.{Each}
use Rattle.reorder.specs.Reorder.{places, in_column, gathered}
use Rattle.reorder.specs.Steps.{placed, Room}
use Rattle.reorder.proofs.Steps.{bump, bump_kept, bump_grows, length-placed}

-- the place p is none that the keys are yet to take
abbrev Outside : ℕ → ℕ → List ℕ → List ℕ → Type 0
Outside n p next ks = (c : ℕ) → c < n → get_or next c 0 ≤ p → get_or next c 0 + tally c ks ≤ p

-- the places that the columns are yet to take lie apart, in the columns' order
abbrev Apart : ℕ → List ℕ → List ℕ → Type 0
Apart n next ks = (c e : ℕ) → c < e → e < n → get_or next c 0 + tally c ks ≤ get_or next e 0

module _ (n : ℕ) (next ks : List ℕ) (k : ℕ) (long : n ≤ length next) where
  outside_on : (p : ℕ) → Outside n p next (k ∷ ks) → Outside n p (bump next k) ks
  outside_on p o c h le =
      let g = bump_grows next k c (omega arith) in
      omega (arith, bump_kept next ks k c (omega arith), o c h (omega arith))

  apart_on : Apart n next (k ∷ ks) → Apart n (bump next k) ks
  apart_on a c e l h = omega (arith, bump_kept next ks k c (omega arith), a c e l h, bump_grows next k e (omega arith))

  room-on : (m : ℕ) → Room n m next (k ∷ ks) → Room n m (bump next k) ks
  room-on m r c h = omega (arith, bump_kept next ks k c (omega arith), r c h)

  -- the place that k takes is taken once
  taken_once : k < n → Apart n next (k ∷ ks) → Outside n (get_or next k 0) (bump next k) ks
  taken_once l a c h le =
      let kept = bump_kept next ks k c (omega arith) in
      let here = tally-here k ks in
      elim (dec_lt c k) [
        | yes b ↦ omega (arith, a c k b l)
        | no g ↦ elim (ℕ_discrete c k) [
          | yes e ↦ absurd (omega (arith, bump_kept next [] k k (omega arith), tally-here k [], tally-none k, ap (λ (i : ℕ). get_or (bump next k) i 0) e))
          | no ne ↦ absurd (omega (arith, a k c (omega arith) h, bump_grows next k c (omega arith)))
        ]
      ]

module _ {A : Type 0} where
  in_column-here : (c : ℕ) (ks : List ℕ) (x : A) (xs : List A) → in_column c (c ∷ ks) (x ∷ xs) ≡ x ∷ in_column c ks xs
  unfolding in_column
  in_column-here c ks x xs = rw (eq-eqb c c refl)

  in_column-past : (c k : ℕ) (ks : List ℕ) (x : A) (xs : List A) → (k ≡ c → ⊥) → in_column c (k ∷ ks) (x ∷ xs) ≡ in_column c ks xs
  unfolding in_column
  in_column-past c k ks x xs ne = rw (ne_eqb k c ne)

  pub length-in_column : (c : ℕ) (ks : List ℕ) (xs : List A) → length xs ≡ length ks → length (in_column c ks xs) ≡ tally c ks
  unfolding in_column tally
  length-in_column c [] xs e = refl
  length-in_column c (k ∷ ks) [] e = absurd (omega arith)
  length-in_column c (k ∷ ks) (x ∷ xs) e =
      let ih = length-in_column c ks xs (omega arith) in
      elim (ℕ_discrete k c) [ yes q ↦ rw (eq-eqb k c q) (ap suc ih) | no ne ↦ rw (ne_eqb k c ne) ih ]

module _ {A : Type 0} (d : A) (n : ℕ) where
  untouched : (p : ℕ) (ks : List ℕ) (xs : List A) (next : List ℕ) (out : List A) → Each n ks → n ≤ length next → Outside n p next ks → get_or (placed (places next ks) xs out) p d ≡ get_or out p d
  unfolding placed places
  untouched p [] xs next out b l o = refl
  untouched p (k ∷ ks) [] next out b l o = refl
  untouched p (k ∷ ks) (x ∷ xs) next out b l o =
      untouched p ks xs (bump next k) (set out (get_or next k 0) x) (λ j h. b (suc j) (omega arith)) (rw length-set l) (outside_on n next ks k l p o)
      ∙ get_or-set_other out (get_or next k 0) p x d (λ e. omega (arith, o k (b 0 (omega arith)) (omega arith), tally-here k ks))

  -- one entry more: what its column holds begins with it, and what the others hold stays
  module _ (R : List A) (k : ℕ) (ks : List ℕ) (x : A) (xs : List A) (next : List ℕ) (long : n ≤ length next) (first : get_or R (get_or next k 0) d ≡ x) (rest : (c q : ℕ) → c < n → q < tally c ks → get_or R (get_or (bump next k) c 0 + q) d ≡ get_or (in_column c ks xs) q d) where
    one-here : (q : ℕ) → k < n → q < tally k (k ∷ ks) → get_or R (get_or next k 0 + q) d ≡ get_or (in_column k (k ∷ ks) (x ∷ xs)) q d
    one-here zero h t = rw in_column-here (ap (λ (p : ℕ). get_or R p d) (omega arith) ∙ first)
    one-here (suc q) h t =
        rw in_column-here
        (ap (λ (p : ℕ). get_or R p d) (omega (arith, get_or-set_same next k (get_or next k 0 + 1) 0 (omega arith)))
        ∙ rest k q h (omega (arith, tally-here k ks)))

    one_more : (c q : ℕ) → c < n → q < tally c (k ∷ ks) → get_or R (get_or next c 0 + q) d ≡ get_or (in_column c (k ∷ ks) (x ∷ xs)) q d
    one_more c q h t =
        elim (ℕ_discrete k c) [
          | yes e ↦ rw (← e) (one-here q (omega arith) (omega (arith, ap (λ (i : ℕ). tally i (k ∷ ks)) e)))
          | no ne ↦ rw (in_column-past c k ks x xs ne)
              (ap (λ (p : ℕ). get_or R p d) (omega (arith, get_or-set_other next k c (get_or next k 0 + 1) 0 (λ e. ne (sym e))))
              ∙ rest c q h (omega (arith, tally-past c k ks ne)))
        ]

  -- each column's places hold those of the xs that come to it, in their order
  in_place : (ks : List ℕ) (xs : List A) (next : List ℕ) (out : List A) → Each n ks → n ≤ length next → Apart n next ks → Room n (length out) next ks → length xs ≡ length ks → (c q : ℕ) → c < n → q < tally c ks → get_or (placed (places next ks) xs out) (get_or next c 0 + q) d ≡ get_or (in_column c ks xs) q d
  unfolding placed places
  in_place [] xs next out b l a r e c q h t = absurd (omega (arith, tally-none c))
  in_place (k ∷ ks) [] next out b l a r e c q h t = absurd (omega arith)
  in_place (k ∷ ks) (x ∷ xs) next out b l a r e c q h t =
      let inside : k < n = b 0 (omega arith) in
      let rest : Each n ks = λ j h. b (suc j) (omega arith) in
      let l' : n ≤ length (bump next k) = rw length-set l in
      one_more (placed (places (bump next k) ks) xs (set out (get_or next k 0) x)) k ks x xs next l
      (untouched (get_or next k 0) ks xs (bump next k) (set out (get_or next k 0) x) rest l' (taken_once n next ks k l inside a)
      ∙ get_or-set_same out (get_or next k 0) x d (omega (arith, r k inside, tally-here k ks)))
      (in_place ks xs (bump next k) (set out (get_or next k 0) x) rest l' (apart_on n next ks k l a) (rw length-set (room-on n next ks k l (length out) r)) (omega arith))
      c
      q
      h
      t

-- the numbers below c are among those below e
pub below_mono : (c e : ℕ) (ks : List ℕ) → c ≤ e → below c ks ≤ below e ks
below_mono c zero ks h = let z : c ≡ 0 = omega arith in rw z (omega arith)
below_mono c (suc e) ks h =
    elim (ℕ_discrete c (suc e)) [ yes q ↦ rw q (omega arith) | no ne ↦ omega (arith, below_mono c e ks (omega arith), below_suc e ks) ]

module _ {A : Type 0} (d : A) (n : ℕ) (ks : List ℕ) (xs : List A) (same : length xs ≡ length ks) where
  -- a table that holds each column at the column's place holds them one after the other
  module _ (R : List A) (fits : length ks ≤ length R) (holds : (c q : ℕ) → c < n → q < tally c ks → get_or R (below c ks + q) d ≡ get_or (in_column c ks xs) q d) where
    one : (c : ℕ) → c < n → take (tally c ks) (drop (below c ks) R) ≡ in_column c ks xs
    one c h =
        let long = length-take-le (tally c ks) (drop (below c ks) R) (omega (arith, length-drop (below c ks) R, below_suc c ks, below_le (suc c) ks)) in
        ext_get_or d (take (tally c ks) (drop (below c ks) R)) (in_column c ks xs) (long ∙ sym (length-in_column c ks xs same))
        (λ q l. let t : q < tally c ks = omega arith in get_or-take (tally c ks) (drop (below c ks) R) q d t ∙ get_or-drop (below c ks) R q d ∙ holds c q h t)

    joined : (c k : ℕ) → c + k ≡ n → drop (below c ks) R ≡ gathered (from c k) ks xs ++ drop (below n ks) R
    unfolding gathered join_all from
    joined c zero e = ap (λ (i : ℕ). drop (below i ks) R) (omega arith)
    joined c (suc k) e =
        sym (take-append-drop (tally c ks) (drop (below c ks) R))
        ∙ ap (λ (l : List A). l ++ drop (tally c ks) (drop (below c ks) R)) (one c (omega arith))
        ∙ ap (λ (l : List A). in_column c ks xs ++ l) (drop-drop (tally c ks) (below c ks) R ∙ ap (λ (i : ℕ). drop i R) (sym (below_suc c ks)) ∙ joined (suc c) k (omega arith))
        ∙ sym (append_assoc (in_column c ks xs) (gathered (from (suc c) k) ks xs) (drop (below n ks) R))

  -- the next free places are the columns' first ones, and the table has room for all
  module _ (next : List ℕ) (out : List A) (b : Each n ks) (l : n ≤ length next) (starts : (c : ℕ) → c < n → get_or next c 0 ≡ below c ks) (fits : length ks ≤ length out) where
    abbrev filled : List A
    filled = placed (places next ks) xs out

    room : Room n (length ks) next ks
    room c h = omega (arith, starts c h, below_suc c ks, below_le (suc c) ks)

    apart : Apart n next ks
    apart c e k h = omega (arith, starts c (omega arith), starts e h, below_suc c ks, below_mono (suc c) e ks k)

    holds : (c q : ℕ) → c < n → q < tally c ks → get_or filled (below c ks + q) d ≡ get_or (in_column c ks xs) q d
    holds c q h t =
        ap (λ (i : ℕ). get_or filled (i + q) d) (sym (starts c h)) ∙ in_place d n ks xs next out b l apart (λ k i. omega (arith, room k i)) same c q h t

    front : filled ≡ gathered (upto n) ks xs ++ drop (below n ks) filled
    front =
        ap (λ (i : ℕ). drop i filled) (sym (below_zero ks))
        ∙ rw (← from_range 0 n) (joined filled (omega (arith, length-placed (places next ks) xs out)) holds 0 n (zero-add n))

    rest : drop (length ks) filled ≡ drop (length ks) out
    rest =
        ext_get_or d (drop (length ks) filled) (drop (length ks) out)
        (omega (arith, length-placed (places next ks) xs out, length-drop (length ks) filled, length-drop (length ks) out))
        (λ i h. get_or-drop (length ks) filled i d ∙ untouched d n (length ks + i) ks xs next out b l (λ c k le. omega (arith, room c k)) ∙ sym (get_or-drop (length ks) out i d))

    size : length (gathered (upto n) ks xs) ≡ length ks
    size =
        omega (
          arith,
          ap length front,
          length-append (gathered (upto n) ks xs) (drop (below n ks) filled),
          length-drop (below n ks) filled,
          length-placed (places next ks) xs out,
          below_all n ks b,
        )

    pub fills : placed (places next ks) xs out ≡ over (gathered (upto n) ks xs) out
    unfolding over
    fills =
        front
        ∙ ap (λ (r : List A). gathered (upto n) ks xs ++ r) (ap (λ (i : ℕ). drop i filled) (below_all n ks b) ∙ rest ∙ ap (λ (i : ℕ). drop i out) (sym size))

-- the places depend on no more than the next free ones of the columns that there are
pub places_same : (n : ℕ) (ks next other : List ℕ) → Each n ks → n ≤ length next → n ≤ length other → ((c : ℕ) → c < n → get_or next c 0 ≡ get_or other c 0) → places next ks ≡ places other ks
unfolding places
places_same n [] next other b l m e = refl
places_same n (k ∷ ks) next other b l m e =
    let rest =
    places_same n ks (bump next k) (bump other k) (λ j h. b (suc j) (omega arith)) (rw length-set l) (rw length-set m)
    (λ c h. omega (arith, e c h, bump_kept next [] k c (omega arith), bump_kept other [] k c (omega arith))) in
    let first = e k (b 0 (omega arith)) in
    cc
