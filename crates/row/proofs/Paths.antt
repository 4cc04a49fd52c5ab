-- The order in which row k visits its columns: row k's paths hold exactly what is joined to k as it goes, each once, and after each
-- unknown its parent, where that is below k. Assumes nothing.
use Prim.Native.Nat.{ℕ, zero, suc, ◌+◌, ◌<◌, ◌≤◌}
use mathlib.Core.Path.{◌≡◌, refl, sym, ap, ◌∙◌}
use mathlib.Core.Bool.{Bool, true, false, cond, not, ◌&&◌}
use mathlib.Core.Logic.{inl, inr, ⊎_elim}
use mathlib.Core.List.{List, [], ◌∷◌, ◌++◌}
use native.Mathlib.Omega.{arith}
use borrow.Author.Tests.{lt-ltb, le-ltb}
use lib.Dec.{ltb, eqb}
use lib.ListN.{length, get_or}
use Rattle.desk.specs.Lists.{any}
use Rattle.desk.proofs.Upto.{get_or-upto}
use Rattle.tree.specs.Strike.{joined, later, none, least_or, parents}
use Rattle.tree.specs.Marks.{On}
use Rattle.tree.proofs.Liu.{Parents, parent_joined}
use Rattle.tree.proofs.Later.{are_parents}
use Rattle.row.specs.Row.{path, visits}
use Rattle.row.specs.Kernels.{In, Out, up, Climb, next}
use Rattle.row.proofs.Members.{in_or_out, out_none, in_here, out_both, in_back, out_append}

-- ---- a step of a path

module _ (etree : List ℕ) (k : ℕ) (marked : List ℕ) where
  -- with no steps left it is empty
  pub path-none : (i : ℕ) → path etree k marked 0 i ≡ []
  unfolding path
  path-none i = refl

  -- it goes on below k at an unmarked unknown
  pub path-on : (steps i : ℕ) → i < k → Out i marked → path etree k marked (suc steps) i ≡ i ∷ path etree k marked steps (up etree i)
  unfolding path
  path-on steps i h o = rw (lt-ltb i k h, o)

  -- and stops at a marked one, and from k on
  pub path_met : (steps i : ℕ) → In i marked → path etree k marked steps i ≡ []
  unfolding path
  path_met zero i m = refl
  path_met (suc steps) i m = go (ltb i k)
    where
      go : (b : Bool) → cond (b && not (any (eqb i) marked)) (i ∷ path etree k marked steps (get_or etree i none)) [] ≡ []
      go true = rw m
      go false = refl

  pub path-past : (steps i : ℕ) → k ≤ i → path etree k marked steps i ≡ []
  unfolding path
  path-past zero i h = refl
  path-past (suc steps) i h = rw (le-ltb i k h)

  -- where a path starts is marked after it
  pub path_has : (steps i : ℕ) → k ≤ steps + i → i < k → In i (path etree k marked steps i ++ marked)
  path_has zero i f h = absurd (omega arith)
  path_has (suc steps) i f h =
      ⊎_elim
      (λ m. in_back i (path etree k marked (suc steps) i) marked m)
      (λ o. rw (path-on steps i h o) (in_here i (path etree k marked steps (up etree i) ++ marked)))
      (in_or_out i marked)

-- ---- the paths of row k

module _ (g : ℕ → ℕ → Bool) (n : ℕ) (etree : List ℕ) (P : Parents g n (up etree)) (k : ℕ) (kn : k < n) where
  -- where a path goes on, its next is of row k or is k, and later
  pub up-on : (i : ℕ) → i < k → joined g i i k ≡ true → On g k (up etree i)
  up-on i h j = parent_joined g n (up etree) P i k h kn j

  pub up-later : (i : ℕ) → i < k → joined g i i k ≡ true → i < up etree i
  up-later i h j = P.later i k h kn j

  -- enough steps are as good as more
  path_steps : (marked : List ℕ) (s t i : ℕ) → On g k i → k ≤ s + i → k ≤ t + i → path etree k marked s i ≡ path etree k marked t i
  path_steps marked zero t i o a b = path-none etree k marked i ∙ sym (path-past etree k marked t i (omega arith))
  path_steps marked (suc s) zero i o a b = path-past etree k marked (suc s) i (omega arith) ∙ sym (path-none etree k marked i)
  path_steps marked (suc s) (suc t) i o a b =
      ⊎_elim
      (λ e. path-past etree k marked (suc s) i (omega arith) ∙ sym (path-past etree k marked (suc t) i (omega arith)))
      (λ (h, j). ⊎_elim
      (λ m. path_met etree k marked (suc s) i m ∙ sym (path_met etree k marked (suc t) i m))
      (λ u.
      let l = up-later i h j in
      path-on etree k marked s i h u
      ∙ ap (λ (p : List ℕ). i ∷ p) (path_steps marked s t (up etree i) (up-on i h j) (omega arith) (omega arith))
      ∙ sym (path-on etree k marked t i h u))
      (in_or_out i marked))
      o

  -- so at an unmarked unknown of row k a path goes on as a path from its parent
  pub path_goes : (marked : List ℕ) (i : ℕ) → i < k → joined g i i k ≡ true → Out i marked →
      path etree k marked k i ≡ i ∷ path etree k marked k (up etree i)
  path_goes marked i h j u = path_steps marked k (suc k) i (inr (h, j)) (omega arith) (omega arith) ∙ path-on etree k marked k i h u

  -- a path holds nothing before its start
  pub path-after : (marked : List ℕ) (steps i j : ℕ) → On g k i → j < i → Out j (path etree k marked steps i)
  path-after marked zero i j o h = rw (path-none etree k marked i) (out_none j)
  path-after marked (suc steps) i j o h =
      ⊎_elim
      (λ e. rw (path-past etree k marked (suc steps) i (omega arith)) (out_none j))
      (λ (b, t). ⊎_elim
      (λ m. rw (path_met etree k marked (suc steps) i m) (out_none j))
      (λ u. rw (path-on etree k marked steps i b u)
      (out_both j i (path etree k marked steps (up etree i)) (λ e. omega arith)
      (path-after marked steps (up etree i) j (up-on i b t) (omega (arith, up-later i b t)))))
      (in_or_out i marked))
      o

  -- a path in front of what is marked keeps the order
  pub path_climbs : (marked : List ℕ) (steps i : ℕ) → k ≤ steps + i → On g k i → Climb g (up etree) k marked →
      Climb g (up etree) k (path etree k marked steps i ++ marked)
  path_climbs marked zero i f o c = rw (path-none etree k marked i) c
  path_climbs marked (suc steps) i f o c =
      ⊎_elim
      (λ e. rw (path-past etree k marked (suc steps) i (omega arith)) c)
      (λ (b, t). ⊎_elim
      (λ m. rw (path_met etree k marked (suc steps) i m) c)
      (λ u.
      let p = up etree i in
      let rest = path etree k marked steps p in
      let far : k ≤ steps + p = omega (arith, up-later i b t) in
      rw (path-on etree k marked steps i b u)
      (next b t
      (out_append i rest marked (path-after marked steps p i (up-on i b t) (up-later i b t)) u)
      (⊎_elim (λ e. inl e) (λ (l, _). inr (path_has etree k marked steps p far l)) (up-on i b t))
      (path_climbs marked steps p far (up-on i b t) c)))
      (in_or_out i marked))
      o

  -- the order is kept from entry to entry, whatever is marked before
  pub visits_climbs : (rows marked : List ℕ) → ((q : ℕ) → q < length rows → On g k (get_or rows q 0)) → Climb g (up etree) k marked →
      Climb g (up etree) k (visits etree k rows marked)
  unfolding visits
  visits_climbs [] marked h c = c
  visits_climbs (r ∷ rows) marked h c =
      visits_climbs rows (path etree k marked k r ++ marked) (λ q l. h (suc q) (omega arith))
      (path_climbs marked k r (omega arith) (h 0 (omega arith)) c)

-- ---- what the entries of a column mark

module _ (etree : List ℕ) (k : ℕ) where
  -- what is marked stays marked
  pub visits-keep : (rows marked : List ℕ) (i : ℕ) → In i marked → In i (visits etree k rows marked)
  unfolding visits
  visits-keep [] marked i m = m
  visits-keep (r ∷ rows) marked i m = visits-keep rows (path etree k marked k r ++ marked) i (in_back i (path etree k marked k r) marked m)

  -- each entry above the diagonal is marked
  pub visits_has : (rows marked : List ℕ) (q : ℕ) → q < length rows → get_or rows q 0 < k → In (get_or rows q 0) (visits etree k rows marked)
  unfolding visits
  visits_has [] marked q l h = absurd (omega arith)
  visits_has (r ∷ rows) marked zero l h = visits-keep rows (path etree k marked k r ++ marked) r (path_has etree k marked k r (omega arith) h)
  visits_has (r ∷ rows) marked (suc q) l h = visits_has rows (path etree k marked k r ++ marked) q (omega arith) h

-- the table of parents, read with `none` past its end
pub table_up : (g : ℕ → ℕ → Bool) (n : ℕ) → Parents g n (up (parents n g))
unfolding parents
table_up g n = record {
  later = λ i k l u h. rw (at_place i (omega arith)) ((are_parents g n).later i k l u h);
  least = λ i k l u h. rw (at_place i (omega arith)) ((are_parents g n).least i k l u h);
  touched = λ i k l u h. rw (at_place i (omega arith)) ((are_parents g n).touched i k l u h);
}
  where
    at_place : (i : ℕ) → i < n → get_or (parents n g) i none ≡ least_or none (later n g i)
    at_place i h = get_or-upto (λ i. least_or none (later n g i)) none n i h
