-- Laws of orderings: what being one says of each number, where a number first stands, and lists sent through an ordering. Assumes nothing.
use Prim.Native.Nat.{ℕ, zero, suc, ◌+◌, ◌^◌, ◌<◌, ◌≤◌}
use mathlib.Core.Path.{◌≡◌, refl, sym, ap, subst, ◌∙◌}
use mathlib.Core.Bool.{true, false}
use mathlib.Core.List.{List, [], ◌∷◌, map}
use native.Mathlib.Numerals.{add-one}
use native.Mathlib.Omega.{arith}
use native.Mathlib.Decide.{ℕ_discrete, dec_lt}
use borrow.Author.Tests.{eq-eqb, ne_eqb, eqb-true}
use lib.Dec.{eqb}
use lib.ListN.{length, get_or, take, drop, set, replicate, length-map, length-set, length-replicate, get_or-replicate, take-append-drop}
use lib.Seq.{take-length, length-take-le, get_or-take, get_or-set_same, get_or-set_other, drop-set-lt, ext_get_or}
use Rattle.desk.specs.Lists.{upto, tally, over}
use Rattle.desk.proofs.Both.{is_false}
use Rattle.desk.proofs.Upto.{get_or-upto, length-upto, all-upto, each-upto}
use Rattle.desk.proofs.Tally.{tally-none, tally-here, tally-past, tally_split, tally_suc, below_all, below_missing, below_once, each_once}
use Rattle.desk.proofs.Over.{front, front_more, front_all, get_d_over}
use Rattle.order.specs.Order.{is_ordering, place_of, inverse, permuted, ipermuted}
use Rattle.order.specs.Kernels.{Fitting}

-- ---- what an ordering is

pub stands_once : (p : List ℕ) → is_ordering p ≡ true → (v : ℕ) → v < length p → tally v p ≡ 1
unfolding is_ordering
stands_once p o v h = eqb-true (tally v p) 1 (each-upto (λ v. eqb (tally v p) 1) (length p) v o h)

pub is_ordering_lem : (p : List ℕ) → ((v : ℕ) → v < length p → tally v p ≡ 1) → is_ordering p ≡ true
unfolding is_ordering
is_ordering_lem p h = all-upto (λ v. eqb (tally v p) 1) (length p) (λ v l. eq-eqb (tally v p) 1 (h v l))

-- each number of an ordering is below its length
pub stands_below : (p : List ℕ) → is_ordering p ≡ true → (i : ℕ) → i < length p → get_or p i 0 < length p
stands_below p o i h =
    elim (dec_lt (get_or p i 0) (length p)) [
      | yes l ↦ l
      | no g ↦ absurd (omega (arith, below_missing (length p) p i h (omega arith), below_once (length p) p (stands_once p o)))
    ]

-- and has not stood earlier
pub stands_first : (p : List ℕ) → is_ordering p ≡ true → (i : ℕ) → i < length p → tally (get_or p i 0) (take i p) ≡ 0
stands_first p o i h =
    let v = get_or p i 0 in
    omega (arith, stands_once p o v (stands_below p o i h), tally_split v (suc i) p, tally_suc v i p h, tally-here v [])

-- a number out of range, and a number that has stood earlier, refute it
pub out_of_range : (p : List ℕ) (i : ℕ) → i < length p → length p ≤ get_or p i 0 → is_ordering p ≡ false
out_of_range p i h g = is_false (is_ordering p) (λ o. omega (arith, stands_below p o i h))

pub stood_earlier : (p : List ℕ) (i : ℕ) → i < length p → get_or p i 0 < length p → 0 < tally (get_or p i 0) (take i p) → is_ordering p ≡ false
stood_earlier p i h l e =
    let v = get_or p i 0 in
    is_false (is_ordering p) (λ o. omega (arith, stands_once p o v l, tally_split v (suc i) p, tally_suc v i p h, tally-here v []))

-- ---- where a number first stands

pub place_early : (v i : ℕ) (p : List ℕ) → 0 < tally v (take i p) → place_of v p < i
unfolding place_of tally
place_early v zero p h = absurd (omega arith)
place_early v (suc i) [] h = absurd (omega arith)
place_early v (suc i) (x ∷ p) h =
    elim (ℕ_discrete x v) [
      | yes e ↦ rw (eq-eqb x v e) (omega arith)
      | no ne ↦ rw (ne_eqb x v ne) (omega (arith, place_early v i p (rw (ne_eqb x v ne) at h)))
    ]

pub place_here : (v i : ℕ) (p : List ℕ) → i < length p → get_or p i 0 ≡ v → tally v (take i p) ≡ 0 → place_of v p ≡ i
unfolding place_of tally
place_here v i [] h e t = absurd (omega arith)
place_here v zero (x ∷ p) h e t = rw (eq-eqb x v e)
place_here v (suc i) (x ∷ p) h e t =
    elim (ℕ_discrete x v) [
      | yes q ↦ absurd (let z = rw (eq-eqb x v q) at t in omega arith)
      | no ne ↦ rw (ne_eqb x v ne) (ap suc (place_here v i p (omega arith) e (rw (ne_eqb x v ne) at t)))
    ]

pub place-below : (p : List ℕ) → is_ordering p ≡ true → (v : ℕ) → v < length p → place_of v p < length p
place-below p o v h = place_early v (length p) p (rw (take-length p) (omega (arith, stands_once p o v h)))

-- ---- the inverse, and what stands at a place of a permuted list

pub length-inverse : (p : List ℕ) → length (inverse p) ≡ length p
unfolding inverse
length-inverse p = length-upto (λ v. place_of v p) (length p)

pub get_or-inverse : (p : List ℕ) (v : ℕ) → v < length p → get_or (inverse p) v 0 ≡ place_of v p
unfolding inverse
get_or-inverse p v h = get_or-upto (λ v. place_of v p) 0 (length p) v h

module _ {A : Type 0} (d : A) where
  pub length-permuted : (p : List ℕ) (b : List A) → length (permuted d p b) ≡ length p
  unfolding permuted
  length-permuted p b = length-map p (λ i. get_or b i d)

  pub get_or-permuted : (p : List ℕ) (b : List A) (i : ℕ) → i < length p → get_or (permuted d p b) i d ≡ get_or b (get_or p i 0) d
  unfolding permuted
  get_or-permuted [] b i h = absurd (omega arith)
  get_or-permuted (x ∷ p) b zero h = refl
  get_or-permuted (x ∷ p) b (suc i) h = get_or-permuted p b i (omega arith)

  -- the first i of b have been sent to their places: x[p[k]] = b[k] for each k below i
  pub record Sent (p : List ℕ) (b : List A) (i : ℕ) (x₀ x : List A) : Type 0 where
    pub there : (v : ℕ) → v < length p → 0 < tally v (take i p) → get_or x v d ≡ get_or b (place_of v p) d
    pub size : length x ≡ length x₀
    pub kept : drop (length p) x ≡ drop (length p) x₀

  pub sent_none : (p : List ℕ) (b x : List A) → Sent p b 0 x x
  unfolding tally
  sent_none p b x = record { there = λ v l h. absurd (omega arith); size = refl; kept = refl }

  -- the next one, whose number j has not stood earlier
  pub sent_more : (p : List ℕ) (b : List A) (i : ℕ) (x₀ x : List A) → Sent p b i x₀ x → i < length p → {j : ℕ} → j ≡ get_or p i 0 → j < length x →
      get_or p i 0 < length p → tally (get_or p i 0) (take i p) ≡ 0 → Sent p b (i + 1) x₀ (set x j (get_or b i d))
  sent_more p b i x₀ x s h {j} q w l t =
      let v = get_or b i d in
      record {
        there = λ u ul e.
            elim (ℕ_discrete u j) [
              | yes r ↦ rw r (get_or-set_same x j v d w ∙ ap (λ (k : ℕ). get_or b k d) (sym (rw q (place_here (get_or p i 0) i p h refl t))))
              | no ne ↦
                  get_or-set_other x j u v d ne
                  ∙ s.there u ul (omega (arith, rw add-one at e, tally_suc u i p h, tally-past u (get_or p i 0) [] (λ r. ne (sym r ∙ sym q)), tally-none u))
            ];
        size = length-set x j v ∙ s.size;
        kept = drop-set-lt (length p) x j v (omega arith) ∙ s.kept;
      }

  -- all of them have been sent: the list is y, which says what its places do, and what lay past it
  pub sent_all : (p : List ℕ) (b x₀ x y : List A) (i : ℕ) → Sent p b i x₀ x → i ≡ length p → length p ≤ length x → is_ordering p ≡ true →
      length y ≡ length p → ((v : ℕ) → v < length p → get_or y v d ≡ get_or b (place_of v p) d) → x ≡ over y x₀
  unfolding over
  sent_all p b x₀ x y i s q w o ly e =
      let n = length p in
      let l : length (take n x) ≡ n = length-take-le n x w in
      let come : (v : ℕ) → v < n → 0 < tally v (take i p) = λ v h. rw (q, take-length p) (omega (arith, stands_once p o v h)) in
      let front : take n x ≡ y =
      ext_get_or d (take n x) y (l ∙ sym ly) (λ v h.
      get_or-take n x v d (omega arith) ∙ s.there v (omega arith) (come v (omega arith)) ∙ sym (e v (omega arith))) in
      sym (take-append-drop n x) ∙ rw (front, s.kept, ly)

  pub length-ipermuted : (p : List ℕ) (b : List A) → length (ipermuted d p b) ≡ length p
  unfolding ipermuted
  length-ipermuted p b = length-permuted (inverse p) b ∙ length-inverse p

  pub get_or-ipermuted : (p : List ℕ) (b : List A) (v : ℕ) → v < length p → get_or (ipermuted d p b) v d ≡ get_or b (place_of v p) d
  unfolding ipermuted
  get_or-ipermuted p b v h = get_or-permuted (inverse p) b v (omega (arith, length-inverse p)) ∙ ap (λ (k : ℕ). get_or b k d) (get_or-inverse p v h)

  -- ---- the loop that permutes: x's front is the permuted list as far as the loop has come

  module _ (p : List ℕ) (b x₀ x : List A) (i : ℕ) (f : Fitting p b x₀) (e : x ≡ front (permuted d p b) x₀ i) where
    pub permuted_more : i < length p → {j : ℕ} → j ≡ get_or p i 0 → set x i (get_or b j d) ≡ front (permuted d p b) x₀ (i + 1)
    permuted_more h {j} q =
        rw (e, q, ← get_or-permuted p b i h)
        (front_more (permuted d p b) x₀ d i (omega (arith, length-permuted p b)) (omega (arith, f.writes)))

    pub permuted-all : i ≤ length p → length p ≤ i → x ≡ over (permuted d p b) x₀
    permuted-all h g = e ∙ front_all (permuted d p b) x₀ i (omega (arith, length-permuted p b))

-- ---- the loop that inverts

-- what stands in the inverse where no number has come yet
abbrev pub unset : ℕ
unset = 4294967295

-- the first i numbers are in range and different, and the inverse has the place of each, and `unset` elsewhere
pub record Inverting (p : List ℕ) (i : ℕ) (s₀ s : List ℕ) : Type 0 where
  pub inside : (k : ℕ) → k < i → get_or p k 0 < length p
  pub once : (v : ℕ) → v < length p → tally v (take i p) ≤ 1
  pub empty : (v : ℕ) → v < length p → tally v (take i p) ≡ 0 → get_or s v 0 ≡ unset
  pub sent : Sent 0 p (map (λ v. v) (upto (length p))) i s₀ s

-- the place that stands there is the one at which the number first stands
place_there : (p : List ℕ) (v : ℕ) → place_of v p < length p → get_or (map (λ v. v) (upto (length p))) (place_of v p) 0 ≡ place_of v p
place_there p v h = get_or-upto (λ v. v) 0 (length p) (place_of v p) h

pub inverting_none : (p s t : List ℕ) → s ≡ over (replicate (length p) unset) t → Inverting p 0 s s
unfolding tally
inverting_none p s t e = record {
  inside = λ k h. absurd (omega arith);
  once = λ v h. omega arith;
  empty = λ v h z. ap (λ (l : List ℕ). get_or l v 0) e ∙ get_d_over (replicate (length p) unset) t 0 v (omega (arith, length-replicate (length p) unset)) ∙ get_or-replicate (length p) v unset 0 h;
  sent = sent_none 0 p _ s;
}

module _ (p s₀ s : List ℕ) (i : ℕ) (small : length p < 2 ^ 32) (h : i < length p) {j : ℕ} (q : j ≡ get_or p i 0) (l : j < length p) (w : Inverting p i s₀ s) where
  -- a number whose place is unset has not stood earlier, and another has
  new : get_or s j 0 ≡ unset → tally j (take i p) ≡ 0
  new e = elim (dec_lt 0 (tally j (take i p))) [
    | yes g ↦
        let early = place_early j i p g in
        absurd (omega (arith, e, w.sent.there j l g, place_there p j (omega arith)))
    | no z ↦ omega arith
  ]

  pub inverting_twice : (get_or s j 0 ≡ unset → ⊥) → is_ordering p ≡ false
  inverting_twice ne = stood_earlier p i h (omega arith) (elim (dec_lt 0 (tally (get_or p i 0) (take i p))) [
    | yes g ↦ g
    | no z ↦ absurd (ne (w.empty j l (rw q (omega arith))))
  ])

  pub inverting_more : length p ≤ length s → get_or s j 0 ≡ unset → Inverting p (i + 1) s₀ (set s j i)
  inverting_more r e =
      let t : tally (get_or p i 0) (take i p) ≡ 0 = rw q at (new e) in
      record {
        inside = λ k g. elim (ℕ_discrete k i) [ yes b ↦ rw b (omega arith) | no ne ↦ w.inside k (omega arith) ];
        once = λ v g. rw add-one (elim (ℕ_discrete v j) [
          | yes b ↦ rw (b, q) (omega (arith, t, tally_suc (get_or p i 0) i p h, tally-here (get_or p i 0) [], tally-none (get_or p i 0)))
          | no ne ↦ omega (arith, w.once v g, tally_suc v i p h, tally-past v (get_or p i 0) [] (λ b. ne (sym b ∙ sym q)), tally-none v)
        ]);
        empty = λ v g z. elim (ℕ_discrete v j) [
          | yes b ↦ absurd (omega (arith, rw (add-one, b, q) at z, tally_suc (get_or p i 0) i p h, tally-here (get_or p i 0) []))
          | no ne ↦ get_or-set_other s j v i 0 ne ∙ w.empty v g (omega (arith, rw add-one at z, tally_suc v i p h))
        ];
        sent = subst (λ (x : ℕ). Sent 0 p (map (λ v. v) (upto (length p))) (i + 1) s₀ (set s j x)) (get_or-upto (λ v. v) 0 (length p) i h)
            (sent_more 0 p _ i s₀ s w.sent h q (omega arith) (omega arith) t);
      }

module _ (p s₀ s : List ℕ) (i : ℕ) (h : i ≡ length p) (w : Inverting p i s₀ s) where
  pub inverted-ordering : is_ordering p ≡ true
  inverted-ordering =
      let once : (v : ℕ) → v < length p → tally v p ≤ 1 = λ v l. rw (h, take-length p) at (w.once v l) in
      is_ordering_lem p (each_once (length p) p once (omega (arith, below_all (length p) p (λ k l. w.inside k (omega arith)))))

  pub inverted : length p ≤ length s → s ≡ over (inverse p) s₀
  inverted r =
      let o = inverted-ordering in
      sent_all 0 p _ s₀ s (inverse p) i w.sent h r o (length-inverse p) (λ v l. get_or-inverse p v l ∙ sym (place_there p v (place-below p o v l)))
