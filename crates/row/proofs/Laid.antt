-- Laws of the layout of L: each column's list lies at its pointer, one more entry of a column is one store, and what a place then holds.
-- The pointers are `sums s rooms`: each column begins where the room of the one before it ends. Assumes nothing.
use Prim.Native.Nat.{ℕ, zero, suc, ◌+◌, ◌≤◌, ◌<◌}
use mathlib.Core.Path.{◌≡◌, refl, sym, ap, ◌∙◌}
use mathlib.Core.Logic.{◌⊎◌, inl, inr}
use mathlib.Core.List.{List, [], ◌∷◌, ◌++◌}
use native.Mathlib.Nat.{add-zero, add-suc, suc-add}
use native.Mathlib.Omega.{arith}
use lib.ListN.{length, get_or, set, replicate, length-set}
use lib.Seq.{sets, length-sets, set_comm, get_or-set_same, get_or-set_other}
use Rattle.desk.specs.Lists.{sums}
use Rattle.desk.proofs.Sums.{length-sums, sums_first, sums_rise}
use Rattle.row.specs.Laid.{laid}

-- ---- a list at one place

module _ {A : Type 0} where
  -- one element more is one store, behind the others
  pub sets_more : (old : List A) (p : ℕ) (col : List A) (x : A) → sets old p (col ++ (x ∷ [])) ≡ set (sets old p col) (p + length col) x
  sets_more old p [] x = ap (λ (i : ℕ). set old i x) (sym (add-zero p))
  sets_more old p (y ∷ col) x =
      sets_more (set old p y) (suc p) col x ∙ ap (λ (i : ℕ). set (sets (set old p y) (suc p) col) i x) (omega arith)

  -- a store before the list is free to come first
  pub sets_before : (old : List A) (p : ℕ) (col : List A) (i : ℕ) (x : A) → i < p → sets (set old i x) p col ≡ set (sets old p col) i x
  sets_before old p [] i x h = refl
  sets_before old p (y ∷ col) i x h =
      ap (λ (l : List A). sets l (suc p) col) (set_comm old i p x y (λ e. omega arith)) ∙ sets_before (set old p y) (suc p) col i x (omega arith)

  -- the places of the list hold it, and the other places what they held
  pub sets_outside : (old : List A) (p : ℕ) (col : List A) (i : ℕ) (d : A) → (i < p) ⊎ (p + length col ≤ i) → get_or (sets old p col) i d ≡ get_or old i d
  sets_outside old p [] i d h = refl
  sets_outside old p (y ∷ col) i d (inl h) =
      sets_outside (set old p y) (suc p) col i d (inl (omega arith)) ∙ get_or-set_other old p i y d (λ e. omega arith)
  sets_outside old p (y ∷ col) i d (inr h) =
      sets_outside (set old p y) (suc p) col i d (inr (omega arith)) ∙ get_or-set_other old p i y d (λ e. omega arith)

  pub sets-inside : (old : List A) (p : ℕ) (col : List A) (j : ℕ) (d : A) → j < length col → p + j < length old → get_or (sets old p col) (p + j) d ≡ get_or col j d
  sets-inside old p [] j d h l = absurd (omega arith)
  sets-inside old p (y ∷ col) zero d h l =
      rw add-zero (sets_outside (set old p y) (suc p) col p d (inl (omega arith)) ∙ get_or-set_same old p y d (omega arith))
  sets-inside old p (y ∷ col) (suc j) d h l =
      rw (add-suc, ← suc-add) (sets-inside (set old p y) (suc p) col j d (omega arith) (simp length-set (omega arith)))

-- ---- all lists at their pointers

module _ {A : Type 0} where
  -- the length is kept
  pub length-laid : (ps : List ℕ) (cols : List (List A)) (old : List A) → length (laid ps cols old) ≡ length old
  unfolding laid
  length-laid [] cols old = refl
  length-laid (p ∷ ps) [] old = refl
  length-laid (p ∷ ps) (col ∷ cols) old = length-laid ps cols (sets old p col) ∙ length-sets old p col

  -- where no column lists anything, the table is what it was
  pub laid_nothing : (ps : List ℕ) (n : ℕ) (old : List A) → laid ps (replicate n []) old ≡ old
  unfolding laid
  laid_nothing [] n old = refl
  laid_nothing (p ∷ ps) zero old = refl
  laid_nothing (p ∷ ps) (suc n) old = laid_nothing ps n old

  -- a store before all of them is free to come first
  pub laid_before : (s : ℕ) (rooms : List ℕ) (cols : List (List A)) (old : List A) (i : ℕ) (x : A) → i < s →
      laid (sums s rooms) cols (set old i x) ≡ set (laid (sums s rooms) cols old) i x
  unfolding laid sums
  laid_before s [] [] old i x h = refl
  laid_before s [] (col ∷ cols) old i x h = sets_before old s col i x h
  laid_before s (r ∷ rooms) [] old i x h = refl
  laid_before s (r ∷ rooms) (col ∷ cols) old i x h =
      ap (λ (l : List A). laid (sums (s + r) rooms) cols l) (sets_before old s col i x h) ∙ laid_before (s + r) rooms cols (sets old s col) i x (omega arith)

  -- one entry more in column c is one store, at the column's pointer and as many places on as the column has entries
  pub laid_more : (s : ℕ) (rooms : List ℕ) (cols : List (List A)) (old : List A) (c : ℕ) (x : A) →
      c < length cols → length (get_or cols c []) < get_or rooms c 0 →
      laid (sums s rooms) (set cols c (get_or cols c [] ++ (x ∷ []))) old
      ≡ set (laid (sums s rooms) cols old) (get_or (sums s rooms) c 0 + length (get_or cols c [])) x
  unfolding laid sums
  laid_more s rooms [] old c x h l = absurd (omega arith)
  laid_more s [] (col ∷ cols) old c x h l = absurd (omega arith)
  laid_more s (r ∷ rooms) (col ∷ cols) old zero x h l =
      ap (λ (m : List A). laid (sums (s + r) rooms) cols m) (sets_more old s col x)
      ∙ laid_before (s + r) rooms cols (sets old s col) (s + length col) x (omega arith)
  laid_more s (r ∷ rooms) (col ∷ cols) old (suc c) x h l = laid_more (s + r) rooms cols (sets old s col) c x (omega arith) l

  -- a place that is in no column's list holds what it held, whatever the pointers
  pub laid_outside : (ps : List ℕ) (cols : List (List A)) (old : List A) (i : ℕ) (d : A) →
      ((c : ℕ) → c < length cols → c < length ps → (i < get_or ps c 0) ⊎ (get_or ps c 0 + length (get_or cols c []) ≤ i)) →
      get_or (laid ps cols old) i d ≡ get_or old i d
  unfolding laid
  laid_outside [] cols old i d h = refl
  laid_outside (p ∷ ps) [] old i d h = refl
  laid_outside (p ∷ ps) (col ∷ cols) old i d h =
      laid_outside ps cols (sets old p col) i d (λ c l k. h (suc c) (omega arith) (omega arith))
      ∙ sets_outside old p col i d (h 0 (omega arith) (omega arith))

  early : (s : ℕ) (rooms : List ℕ) (cols : List (List A)) (old : List A) (i : ℕ) (d : A) → i < s → get_or (laid (sums s rooms) cols old) i d ≡ get_or old i d
  early s rooms cols old i d h =
      laid_outside (sums s rooms) cols old i d (λ c _ l.
      inl (omega (arith, sums_first s rooms 0, length-sums s rooms, sums_rise s rooms 0 c (omega arith) (omega (arith, length-sums s rooms)))))

  -- the j-th place from column c's pointer on holds the j-th of the column's list
  pub laid-inside : (s : ℕ) (rooms : List ℕ) (cols : List (List A)) (old : List A) (c j : ℕ) (d : A) →
      c < length rooms → j < length (get_or cols c []) → length (get_or cols c []) ≤ get_or rooms c 0 → get_or (sums s rooms) c 0 + j < length old →
      get_or (laid (sums s rooms) cols old) (get_or (sums s rooms) c 0 + j) d ≡ get_or (get_or cols c []) j d
  unfolding laid sums
  laid-inside s rooms [] old c j d h l r o = absurd (omega arith)
  laid-inside s [] (col ∷ cols) old c j d h l r o = absurd (omega arith)
  laid-inside s (x ∷ rooms) (col ∷ cols) old zero j d h l r o =
      early (s + x) rooms cols (sets old s col) (s + j) d (omega arith) ∙ sets-inside old s col j d l o
  laid-inside s (x ∷ rooms) (col ∷ cols) old (suc c) j d h l r o =
      laid-inside (s + x) rooms cols (sets old s col) c j d (omega arith) l r (simp length-sets o)
