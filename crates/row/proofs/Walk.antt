-- A way up from an entry of row k, in whatever graph: the path so far stands at the front of the order and is marked. Assumes nothing.
use Prim.Native.Nat.{ℕ, zero, suc, ◌+◌, ◌<◌, ◌≤◌}
use mathlib.Core.Path.{◌≡◌, refl, sym, ap, ◌∙◌}
use mathlib.Core.Bool.{Bool, true, false, cond}
use mathlib.Core.Logic.{⊎_elim}
use mathlib.Core.List.{List, [], ◌∷◌, ◌++◌, append_assoc, append-nil}
use native.Mathlib.Numerals.{add-one}
use native.Mathlib.Omega.{arith}
use native.Mathlib.Decide.{ℕ_discrete}
use borrow.Author.Tests.{eq-eqb, ne_eqb}
use lib.Dec.{eqb}
use lib.ListN.{length, get_or, set, take, drop, length-set, length-append}
use lib.Seq.{take-suc-set, drop-set-lt, drop-drop, length-take-le, get_or-set_same, get_or-set_other}
use Rattle.desk.specs.Lists.{any}
use Rattle.desk.proofs.Both.{is_true, is_false, either}
use Rattle.tree.specs.Strike.{joined, none}
use Rattle.tree.specs.Marks.{On}
use Rattle.tree.proofs.Liu.{Parents}
use Rattle.tree.proofs.Later.{length-parents}
use Rattle.row.specs.Row.{path}
use Rattle.row.specs.Kernels.{In, Out, up, Marked, Marking, Climbable, Climbed}
use Rattle.row.proofs.Members.{in_out, out_none, in_append, out_back, in_one}
use Rattle.row.proofs.Paths.{table_up, path-past, path_met, path_goes, path_climbs, up-on, up-later}
use Rattle.row.proofs.Order.{climb-fits}

-- ---- marks

-- a mark tells whether its unknown stands in the list
module _ (xs marks : List ℕ) (m : Marked xs marks) (i : ℕ) (h : i < length marks) where
  pub mark_set : (get_or marks i 0 ≡ 0 → ⊥) → In i xs
  mark_set ne = is_true (any (eqb i) xs) (λ o. ne (m i h ∙ rw o))

  pub mark-clear : get_or marks i 0 ≡ 0 → Out i xs
  mark-clear e = is_false (any (eqb i) xs) (λ t. omega (arith, sym e ∙ m i h ∙ ap (λ (b : Bool). cond b 1 0) t))

-- one unknown more between two lists
any_without : (p : ℕ → Bool) (xs ys : List ℕ) (i : ℕ) → p i ≡ false → any p ((xs ++ (i ∷ [])) ++ ys) ≡ any p (xs ++ ys)
any_without p [] ys i e = rw e
any_without p (x ∷ xs) ys i e = rw (any_without p xs ys i e)

any_with : (p : ℕ → Bool) (xs ys : List ℕ) (i : ℕ) → p i ≡ true → any p ((xs ++ (i ∷ [])) ++ ys) ≡ true
any_with p [] ys i e = rw e
any_with p (x ∷ xs) ys i e = either (p x) (any_with p xs ys i e)

mark_more : (xs ys marks : List ℕ) (i : ℕ) → i < length marks → Marked (xs ++ ys) marks → Marked ((xs ++ (i ∷ [])) ++ ys) (set marks i 1)
mark_more xs ys marks i h m j l = elim (ℕ_discrete j i) [
  | yes e ↦ rw (e, get_or-set_same marks i 1 0 h, any_with (eqb i) xs ys i (eq-eqb i i refl))
  | no ne ↦ rw (get_or-set_other marks i j 1 0 ne, any_without (eqb j) xs ys i (ne_eqb j i ne)) (m j (simp length-set at l))
]

-- what is read of a table within it does not depend on what is read past its end
same-inside : (l : List ℕ) (i d e : ℕ) → i < length l → get_or l i d ≡ get_or l i e
same-inside [] i d e h = absurd (omega arith)
same-inside (x ∷ l) zero d e h = refl
same-inside (x ∷ l) (suc i) d e h = same-inside l i d e (omega arith)

-- ---- the way

pub record Walking (s : Marking) (k start : ℕ) (etree order₀ marks order : List ℕ) (len i : ℕ) : Type 0 where
  pub walked : take len order ++ path etree k s.marked k i ≡ path etree k s.marked k start
  pub kept : drop len order ≡ drop len order₀
  pub size : length order ≡ length order₀
  pub size_marks : length marks ≡ length order₀
  pub inside : len ≤ length order
  pub marked : Marked (take len order ++ s.marked) marks
  pub before : (j : ℕ) → In j (take len order) → j < i
  pub on : On s.g k i

module _ (s : Marking) (k start : ℕ) (etree marks₀ order₀ : List ℕ) (b : Climbable s k start etree marks₀ order₀) where
  pub long : length etree ≡ length order₀
  long = ap length b.tree ∙ length-parents s.g (length order₀)

  par : Parents s.g (length order₀) (up etree)
  par = rw b.tree (table_up s.g (length order₀))

  pub walk_start : Walking s k start etree order₀ marks₀ order₀ 0 start
  walk_start = record {
    walked = refl;
    kept = refl;
    size = refl;
    size_marks = b.size;
    inside = omega arith;
    marked = b.marked;
    before = λ j m. absurd (in_out j [] m (out_none j));
    on = b.on;
  }

  module _ (marks order : List ℕ) (len i : ℕ) (w : Walking s k start etree order₀ marks order len i) where
    -- the path so far, what is left of it and what was marked before are of row k, each once
    pub walk_fits : len + length (path etree k s.marked k i) + length s.marked ≤ k
    walk_fits =
        omega (
          arith,
          climb-fits (path_climbs s.g (length order₀) etree par k b.below s.marked k start (omega arith) b.on b.climb),
          simp length-append at (ap length w.walked),
          length-append (path etree k s.marked k start) s.marked,
          length-take-le len order w.inside,
        )

    done : path etree k s.marked k i ≡ [] → Climbed s k start etree marks order₀ order len
    done e =
        let walked : take len order ≡ path etree k s.marked k start = sym (append-nil (take len order)) ∙ ap (λ (l : List ℕ). take len order ++ l) (sym e) ∙ w.walked in
        record {
          walked = walked;
          kept = w.kept;
          room = omega (arith, walk_fits);
          marked = rw (← walked) w.marked;
        }

    -- it ends at k or past it, and at an unknown that was marked before
    pub walk_past : k ≤ i → Climbed s k start etree marks order₀ order len
    walk_past h = done (path-past etree k s.marked k i h)

    module _ (h : i < k) where
      pub at_mark : i < length marks
      at_mark = omega (arith, w.size_marks, b.below)

      pub walk_met : (get_or marks i 0 ≡ 0 → ⊥) → Climbed s k start etree marks order₀ order len
      walk_met ne =
          done (path_met etree k s.marked k i
          (⊎_elim (λ m. absurd (omega (arith, w.before i m))) (λ m. m)
          (in_append i (take len order) s.marked (mark_set (take len order ++ s.marked) marks w.marked i at_mark ne))))

      -- else one step more
      module _ (un : get_or marks i 0 ≡ 0) where
        out : Out i s.marked
        out = out_back i (take len order) s.marked (mark-clear (take len order ++ s.marked) marks w.marked i at_mark un)

        row : joined s.g i i k ≡ true
        row = ⊎_elim (λ e. absurd (omega arith)) (λ (_, t). t) w.on

        goes : path etree k s.marked k i ≡ i ∷ path etree k s.marked k (up etree i)
        goes = path_goes s.g (length order₀) etree par k b.below s.marked i h row out

        pub walk_room : len < length order₀
        walk_room = omega (arith, walk_fits, ap length goes, b.below)

        -- the parent, as the table has it
        module _ (r : ℕ) (q : r ≡ get_or etree i 0) where
          parent : r ≡ up etree i
          parent = q ∙ same-inside etree i 0 none (omega (arith, long, b.below))

          pub walk_nearer : i < r
          walk_nearer = rw parent (up-later s.g (length order₀) etree par k b.below i h row)

          front : take (len + 1) (set order len i) ≡ take len order ++ (i ∷ [])
          front = rw add-one (take-suc-set order len i (omega (arith, walk_room, w.size)))

          pub walk_more : Walking s k start etree order₀ (set marks i 1) (set order len i) (len + 1) r
          walk_more = record {
            walked = rw (front, append_assoc, parent, ← goes) w.walked;
            kept = drop-set-lt (len + 1) order len i (omega arith) ∙ sym (drop-drop 1 len order) ∙ ap (drop 1) w.kept ∙ drop-drop 1 len order₀;
            size = length-set order len i ∙ w.size;
            size_marks = length-set marks i 1 ∙ w.size_marks;
            inside = simp length-set (omega (arith, walk_room, w.size));
            marked = rw front (mark_more (take len order) s.marked marks i at_mark w.marked);
            before = rw front (λ j m. ⊎_elim (λ f. omega (arith, w.before j f, walk_nearer)) (λ t. omega (arith, in_one j i t, walk_nearer)) (in_append j (take len order) (i ∷ []) m));
            on = rw parent (up-on s.g (length order₀) etree par k b.below i h row);
          }
