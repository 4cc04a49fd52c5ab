-- Laws of the layout as a whole: a column's list is the part of the table from its pointer on, the spare places of a room are kept, and
-- lists that fill their rooms lie one after the other. Assumes nothing.
use Prim.Native.Nat.{ℕ, suc, ◌+◌, ◌≤◌, ◌<◌}
use mathlib.Core.Path.{◌≡◌, sym, ap, ◌∙◌}
use mathlib.Core.Logic.{inl, inr}
use mathlib.Core.List.{List, [], ◌∷◌, ◌++◌, map, append_assoc}
use native.Mathlib.Nat.{add-zero, zero-add}
use native.Mathlib.Decide.{ℕ_discrete, dec_lt}
use native.Mathlib.Omega.{arith}
use lib.ListN.{length, get_or, take, drop, length-append, take-append-drop}
use lib.Seq.{sets, sets-eq, length-sets, slice, slice_empty, length-slice, length-take-le, take_at, drop_at, drop-drop, get_or-take, get_or-drop, ext_get_or}
use Rattle.desk.specs.Lists.{sums, total, join_all, over}
use Rattle.desk.proofs.Sums.{sums_next, sums_rise, sums_last}
use Rattle.row.specs.Laid.{laid}
use Rattle.row.proofs.Laid.{length-laid, laid-inside, laid_outside}

module _ {A : Type 0} where
  -- ---- a list at one place

  take-sets : (col old : List A) (p : ℕ) → p + length col ≤ length old → take (p + length col) (sets old p col) ≡ take p old ++ col
  take-sets col old p h =
      rw (sets-eq col old p h) (take_at (take p old ++ col) (drop (p + length col) old) (p + length col)
      (length-append (take p old) col ∙ omega (arith, length-take-le p old (omega arith))))

  drop-sets : (col old : List A) (p : ℕ) → p + length col ≤ length old → drop (p + length col) (sets old p col) ≡ drop (p + length col) old
  drop-sets col old p h =
      ap (drop (p + length col)) (sets-eq col old p h) ∙ drop_at (take p old ++ col) (drop (p + length col) old) (p + length col)
      (length-append (take p old) col ∙ omega (arith, length-take-le p old (omega arith)))

  -- lists that fill their rooms lie one after the other
  laid_exact : (s : ℕ) (cols : List (List A)) (old : List A) → s + length (join_all cols) ≤ length old →
      laid (sums s (map length cols)) cols old ≡ take s old ++ (join_all cols ++ drop (s + length (join_all cols)) old)
  unfolding laid sums join_all
  laid_exact s [] old h = rw add-zero (sym (take-append-drop s old))
  laid_exact s (col ∷ cols) old h =
      let size : length (col ++ join_all cols) ≡ length col + length (join_all cols) = length-append col (join_all cols) in
      let fits : s + length col ≤ length old = omega arith in
      let end : s + length col + length (join_all cols) ≡ s + length (col ++ join_all cols) = omega arith in
      let rest : drop (s + length col + length (join_all cols)) (sets old s col) ≡ drop (s + length (col ++ join_all cols)) old =
      sym (drop-drop (length (join_all cols)) (s + length col) (sets old s col))
      ∙ ap (drop (length (join_all cols))) (drop-sets col old s fits)
      ∙ drop-drop (length (join_all cols)) (s + length col) old
      ∙ ap (λ (i : ℕ). drop i old) end
      in
      laid_exact (s + length col) cols (sets old s col) (simp length-sets (omega arith))
      ∙ ap (λ (l : List A). l ++ (join_all cols ++ drop (s + length col + length (join_all cols)) (sets old s col))) (take-sets col old s fits)
      ∙ ap (λ (l : List A). take s old ++ col ++ (join_all cols ++ l)) rest
      ∙ simp append_assoc

  pub laid-over : (cols : List (List A)) (old : List A) → length (join_all cols) ≤ length old → laid (sums 0 (map length cols)) cols old ≡ over (join_all cols) old
  unfolding over
  laid-over cols old h = laid_exact 0 cols old (omega arith) ∙ ap (λ (i : ℕ). join_all cols ++ drop i old) (zero-add (length (join_all cols)))

  -- ---- lists no longer than their rooms

  -- a part is the list that its places hold
  part_is : (col l : List A) (p : ℕ) → p + length col ≤ length l → ((j : ℕ) (d : A) → j < length col → get_or l (p + j) d ≡ get_or col j d) →
      slice p (p + length col) l ≡ col
  part_is [] l p h same = rw add-zero (slice_empty p l)
  part_is (x ∷ col) l p h same =
      let t = p + length (x ∷ col) in
      let size : length (slice p t l) ≡ length (x ∷ col) = length-slice p t l h ∙ omega arith in
      ext_get_or x (slice p t l) (x ∷ col) size
      (λ j k. get_or-drop p (take t l) j x ∙ get_or-take t l (p + j) x (omega arith) ∙ same j x (omega arith))

  module _ (s : ℕ) (rooms : List ℕ) (cols : List (List A)) (old : List A) (within : (c : ℕ) → c < length rooms → length (get_or cols c []) ≤ get_or rooms c 0) where
    -- a column's list is the part of the table from its pointer on, as long as the list
    pub laid_part : (c : ℕ) → c < length rooms → get_or (sums s rooms) c 0 + length (get_or cols c []) ≤ length old →
        slice (get_or (sums s rooms) c 0) (get_or (sums s rooms) c 0 + length (get_or cols c [])) (laid (sums s rooms) cols old) ≡ get_or cols c []
    laid_part c h l =
        part_is (get_or cols c []) (laid (sums s rooms) cols old) (get_or (sums s rooms) c 0) (simp length-laid l)
        (λ j d k. laid-inside s rooms cols old c j d h k (within c h) (omega arith))

    -- the spare places of a room hold what they held, and so does what lies past all rooms
    pub laid_spare : (c j : ℕ) (d : A) → length cols ≤ length rooms → c < length rooms → length (get_or cols c []) ≤ j → j < get_or rooms c 0 →
        get_or (laid (sums s rooms) cols old) (get_or (sums s rooms) c 0 + j) d ≡ get_or old (get_or (sums s rooms) c 0 + j) d
    laid_spare c j d m h l u = laid_outside (sums s rooms) cols old (get_or (sums s rooms) c 0 + j) d (λ b bc _.
        let next = sums_next s rooms b (omega arith) in
        elim (ℕ_discrete b c) [
          | yes e ↦ rw e (inr (omega arith))
          | no ne ↦ elim (dec_lt b c) [
            | yes lt ↦ inr (omega (arith, next, within b (omega arith), sums_rise s rooms (suc b) c lt (omega arith)))
            | no ge ↦ inl (omega (arith, sums_next s rooms c h, sums_rise s rooms (suc c) b (omega arith) (omega arith)))
          ]
        ])

    pub laid-past : (i : ℕ) (d : A) → length cols ≤ length rooms → s + total rooms ≤ i → get_or (laid (sums s rooms) cols old) i d ≡ get_or old i d
    laid-past i d m l = laid_outside (sums s rooms) cols old i d (λ b bc _.
        inr (omega (arith, sums_next s rooms b (omega arith), within b (omega arith), sums_rise s rooms (suc b) (length rooms) (omega arith) (omega arith), sums_last s rooms)))
