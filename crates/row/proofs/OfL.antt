-- Laws of L's own layout: its pointers leave each column the room that striking out needs, so each row's store has a place of its own; and
-- lists that fill their rooms are the columns of the table. Assumes nothing.
use Prim.Native.Nat.{ℕ, suc, ◌+◌, ◌≤◌, ◌<◌}
use mathlib.Core.Path.{◌≡◌, refl, sym, ap, ◌∙◌}
use mathlib.Core.Bool.{Bool, true}
use mathlib.Core.List.{List, [], ◌∷◌, ◌++◌, map, map-map}
use native.Mathlib.Numerals.{add-one}
use native.Mathlib.Omega.{arith}
use lib.ListN.{length, get_or, set, length-append, length-map, get_or-map}
use lib.Seq.{slice, ext_get_or}
use Rattle.desk.specs.Lists.{sums, total, join_all, upto, over}
use Rattle.desk.proofs.Over.{get_d_over}
use Rattle.desk.proofs.Sums.{length-sums, sums_next, sums_rise, sums_last}
use Rattle.desk.proofs.Upto.{get_or-upto}
use Rattle.csc.specs.Csc.{column}
use Rattle.csc.proofs.Columns.{column_part, part_slice}
use Rattle.tree.specs.Strike.{joined, later, counts, rows_of_l, pointers_of_l}
use Rattle.tree.proofs.Later.{length-counts, get_or-counts}
use Rattle.pivot.specs.Pivots.{+0}
use Rattle.row.proofs.Shape.{shape_sized, shape_plain, column_longer, column-room}
use Rattle.row.specs.Laid.{laid}
use Rattle.row.specs.Kernels.{Sized}
use Rattle.row.proofs.Laid.{length-laid, laid_more}
use Rattle.row.proofs.Full.{laid-over, laid_part, laid_spare, laid-past}

-- how long the lists are together, and a written table
length-joined : {A : Type 0} (cols : List (List A)) → length (join_all cols) ≡ total (map length cols)
unfolding join_all total
length-joined [] = refl
length-joined (col ∷ cols) = length-append col (join_all cols) ∙ omega (arith, length-joined cols)

pub over-long : {A : Type 0} (new old : List A) → length new ≤ length (over new old)
unfolding over
over-long new old = simp length-append (omega arith)

module _ (n : ℕ) (g : ℕ → ℕ → Bool) where
  -- ---- the pointers

  -- a pointer for each column, and one for the end
  pub length-pointers : length (pointers_of_l n g) ≡ suc n
  unfolding pointers_of_l
  length-pointers = length-sums 0 (counts n g) ∙ ap suc (length-counts g n)

  -- column c's room is as long as its list at the end
  pub pointer-next : (c : ℕ) → c < n → get_or (pointers_of_l n g) (suc c) 0 ≡ get_or (pointers_of_l n g) c 0 + length (later n g c)
  unfolding pointers_of_l
  pointer-next c h =
      sums_next 0 (counts n g) c (omega (arith, length-counts g n)) ∙ ap (λ (m : ℕ). get_or (sums 0 (counts n g)) c 0 + m) (get_or-counts g n c h)

  -- the pointers do not fall, and none passes the counts' sum
  pub pointer_rise : (a b : ℕ) → a ≤ b → b ≤ n → get_or (pointers_of_l n g) a 0 ≤ get_or (pointers_of_l n g) b 0
  unfolding pointers_of_l
  pointer_rise a b l h = sums_rise 0 (counts n g) a b l (omega (arith, length-counts g n))

  pub pointer_last : get_or (pointers_of_l n g) n 0 ≡ total (counts n g)
  unfolding pointers_of_l
  pointer_last = ap (λ (i : ℕ). get_or (sums 0 (counts n g)) i 0) (sym (length-counts g n)) ∙ sums_last 0 (counts n g) ∙ omega arith

  pub pointer_most : (c : ℕ) → c ≤ n → get_or (pointers_of_l n g) c 0 ≤ total (counts n g)
  pointer_most c h = omega (arith, pointer_last, pointer_rise c n h (omega arith))

  -- where column c lists row k, there is a place for k behind the rows before it
  pub place_for : (c k : ℕ) → c < k → k < n → joined g c c k ≡ true → get_or (pointers_of_l n g) c 0 + length (later k g c) < total (counts n g)
  place_for c k l h e = omega (arith, column-room g c k n l h e, pointer-next c (omega arith), pointer_most (suc c) (omega arith))

-- ---- the columns so far, with their rows below up_to

module _ {A : Type 0} {g : ℕ → ℕ → Bool} {n : ℕ} {up_to : ℕ → ℕ} {cols : List (List A)} (s : Sized g n up_to cols) (old : List A) where
  -- one entry more in column c is one store
  pub store : (c k : ℕ) (x : A) → c < k → k < n → joined g c c k ≡ true → up_to c ≡ k →
      laid (pointers_of_l n g) (set cols c (get_or cols c [] ++ (x ∷ []))) old
      ≡ set (laid (pointers_of_l n g) cols old) (get_or (pointers_of_l n g) c 0 + length (later k g c)) x
  unfolding pointers_of_l
  store c k x l h j e =
      let size : length (get_or cols c []) ≡ length (later k g c) = s.long c (omega arith) ∙ rw e in
      rw (← size)
      (laid_more 0 (counts n g) cols old c x (omega (arith, s.many)) (omega (arith, column-room g c k n l h j, get_or-counts g n c (omega arith))))

  module _ (most : (c : ℕ) → c < n → up_to c ≤ n) where
    within : (c : ℕ) → c < length (counts n g) → length (get_or cols c []) ≤ get_or (counts n g) c 0
    within c l =
        let h : c < n = omega (arith, length-counts g n) in
        omega (arith, s.long c h, column_longer g c (up_to c) n (most c h), get_or-counts g n c h)

    -- the spare places of a column's room hold what they held, and so does what lies past all rooms
    pub spare : (c j : ℕ) (d : A) → c < n → length (later (up_to c) g c) ≤ j → j < length (later n g c) →
        get_or (laid (pointers_of_l n g) cols old) (get_or (pointers_of_l n g) c 0 + j) d ≡ get_or old (get_or (pointers_of_l n g) c 0 + j) d
    unfolding pointers_of_l
    spare c j d h l u =
        laid_spare 0 (counts n g) cols old within c j d (omega (arith, length-counts g n, s.many)) (omega (arith, length-counts g n))
        (omega (arith, s.long c h)) (omega (arith, get_or-counts g n c h))

    pub past : (i : ℕ) (d : A) → total (counts n g) ≤ i → get_or (laid (pointers_of_l n g) cols old) i d ≡ get_or old i d
    unfolding pointers_of_l
    past i d l = laid-past 0 (counts n g) cols old within i d (omega (arith, length-counts g n, s.many)) (omega arith)

    -- a column's list is the part of the table from its pointer on
    pub part : total (counts n g) ≤ length old → (c : ℕ) → c < n →
        slice (get_or (pointers_of_l n g) c 0) (get_or (pointers_of_l n g) c 0 + length (later (up_to c) g c)) (laid (pointers_of_l n g) cols old) ≡ get_or cols c []
    unfolding pointers_of_l
    part long c h =
        let in-room : c < length (counts n g) = omega (arith, length-counts g n) in
        rw (← s.long c h) (laid_part 0 (counts n g) cols old within c in-room
        (omega (arith, within c in-room, get_or-counts g n c h, pointer-next n g c h, pointer_most n g (suc c) h)))

-- ---- the columns in the end

module _ {A : Type 0} {g : ℕ → ℕ → Bool} {n : ℕ} {cols : List (List A)} (s : Sized g n (λ c. n) cols) (old : List A) (long : total (counts n g) ≤ length old) where
  -- each is a column of the table
  pub column-laid : (ptr : List ℕ) (c : ℕ) → c < n → column (over (pointers_of_l n g) ptr) (laid (pointers_of_l n g) cols old) c ≡ get_or cols c []
  column-laid ptr c h =
      let f = get_or (pointers_of_l n g) c 0 in
      let t = f + length (later n g c) in
      let begins : f ≡ get_or (over (pointers_of_l n g) ptr) c 0 = sym (get_d_over (pointers_of_l n g) ptr 0 c (omega (arith, length-pointers n g))) in
      let ends : t ≡ get_or (over (pointers_of_l n g) ptr) (c + 1) 0 =
      rw (add-one c) (omega (arith, pointer-next n g c h, get_d_over (pointers_of_l n g) ptr 0 (suc c) (omega (arith, length-pointers n g))))
      in
      sym (column_part (over (pointers_of_l n g) ptr) (laid (pointers_of_l n g) cols old) c begins ends
      (omega (arith, length-pointers n g, over-long (pointers_of_l n g) ptr)) (omega arith)
      (simp length-laid (omega (arith, pointer-next n g c h, pointer_most n g (suc c) h))))
      ∙ part_slice f t (laid (pointers_of_l n g) cols old) ∙ part s old (λ c h. omega arith) long c h

  -- and they lie one after the other, over what lay there
  pub filled : laid (pointers_of_l n g) cols old ≡ over (join_all cols) old
  unfolding pointers_of_l
  filled =
      let rooms : counts n g ≡ map length cols =
      ext_get_or 0 (counts n g) (map length cols) (length-counts g n ∙ sym s.many ∙ sym (length-map cols length))
      (λ c l. let k : c < n = omega (arith, length-counts g n) in get_or-counts g n c k ∙ sym (s.long c k) ∙ sym (get_or-map length cols c []))
      in
      ap (λ (r : List ℕ). laid (sums 0 r) cols old) rooms ∙ laid-over cols old (omega (arith, length-joined cols, ap total rooms))

module _ (n : ℕ) (g : ℕ → ℕ → Bool) where
  -- L's rows are as many as the counts' sum
  pub length-rows_of_l : length (rows_of_l n g) ≡ total (counts n g)
  unfolding rows_of_l counts
  length-rows_of_l = length-joined (map (later n g) (upto n)) ∙ ap total (map-map length (later n g) (upto n))

  -- and column c of them is the later rows that c is joined to when it goes
  pub column-rows : (ptr old : List ℕ) → total (counts n g) ≤ length old → (c : ℕ) → c < n →
      column (over (pointers_of_l n g) ptr) (over (rows_of_l n g) old) c ≡ later n g c
  unfolding rows_of_l
  column-rows ptr old long c h =
      let s = shape_sized (shape_plain g n (λ c. n) +0) in
      rw (← filled s old long) (column-laid s old long ptr c h ∙ get_or-upto (later n g) [] n c h)
