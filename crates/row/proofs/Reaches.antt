-- The paths of row k one after the other: what has been put in order stands at the back of the order and is marked. Assumes nothing.
use Prim.Native.Nat.{ℕ, ◌+◌, ◌<◌, ◌≤◌}
use mathlib.Core.Path.{◌≡◌, refl, sym, ap, ◌∙◌}
use mathlib.Core.Bool.{Bool}
use mathlib.Core.Logic.{inl, inr, ⊎_elim}
use mathlib.Core.List.{List, [], ◌++◌}
use native.Mathlib.Omega.{arith}
use lib.ListN.{length, get_or, drop, replicate, length-drop, length-replicate, get_or-replicate}
use lib.Seq.{drop-length, drop-drop}
use Rattle.tree.specs.Marks.{On}
use Rattle.tree.proofs.Liu.{Parents, entry-joined}
use Rattle.row.specs.Row.{path, visits}
use Rattle.row.specs.Kernels.{Marked, Marking, up, Climb, done, Climbable, Climbed, Pushed, Reachable, Reached}
use Rattle.row.proofs.Paths.{table_up, path_climbs}
use Rattle.row.proofs.Turns.{visits_more, visits-done}

-- as many marks as places
pub marks_many : (g : ℕ → ℕ → Bool) (k : ℕ) (rows etree marks order : List ℕ) → Reachable g k rows etree marks order → length marks ≡ length order
marks_many g k rows etree marks order b = ap length b.clear ∙ length-replicate (length order) 0

pub record Reaching (g : ℕ → ℕ → Bool) (k : ℕ) (rows etree order₀ marks order : List ℕ) (top j : ℕ) : Type 0 where
  pub inside : top ≤ length order
  pub size : length order ≡ length order₀
  pub size_marks : length marks ≡ length order₀
  pub left : visits etree k (drop j rows) (drop top order) ≡ visits etree k rows []
  pub climb : Climb g (up etree) k (drop top order)
  pub marked : Marked (drop top order) marks

-- what a climb finds marked
abbrev pub setting : (ℕ → ℕ → Bool) → ℕ → List ℕ → Marking
setting g top order = record { g = g; marked = drop top order }

-- no mark is set
pub unmarked : (n : ℕ) (marks : List ℕ) → marks ≡ replicate n 0 → Marked [] marks
unmarked n marks e i h = rw e (get_or-replicate n i 0 0 (omega (arith, ap length e ∙ length-replicate {A = ℕ} n 0)))

module _ (g : ℕ → ℕ → Bool) (k : ℕ) (rows etree marks₀ order₀ : List ℕ) (b : Reachable g k rows etree marks₀ order₀) where
  par : Parents g (length order₀) (up etree)
  par = rw b.tree (table_up g (length order₀))

  pub reach_start : Reaching g k rows etree order₀ marks₀ order₀ (length order₀) 0
  reach_start = record {
    inside = omega arith;
    size = refl;
    size_marks = marks_many g k rows etree marks₀ order₀ b;
    left = rw (drop-length order₀);
    climb = rw (drop-length order₀) done;
    marked = rw (drop-length order₀) (unmarked (length order₀) marks₀ b.clear);
  }

  module _ (marks order : List ℕ) (top j : ℕ) (w : Reaching g k rows etree order₀ marks order top j) where
    module _ (h : j < length rows) {r : ℕ} (q : r ≡ get_or rows j 0) where
      on : On g k r
      on = rw q (⊎_elim (λ e. inl e) (λ (l, t). inr (l, entry-joined g (get_or rows j 0) k t)) (b.column.on j h))

      pub reach_climbable : Climbable (setting g top order) k r etree marks order
      reach_climbable = record {
        small = omega (arith, w.size, b.small);
        below = omega (arith, w.size, b.below);
        tree = rw w.size b.tree;
        size = w.size_marks ∙ sym w.size;
        marked = w.marked;
        climb = w.climb;
        on = on;
      }

      module _ (marks' order' : List ℕ) (len : ℕ) (c : Climbed (setting g top order) k r etree marks' order order' len) (sm : length marks' ≡ length marks) (so : length order' ≡ length order) where
        pub reach_pushable : len ≤ top
        reach_pushable = omega (arith, c.room, length-drop top order, w.inside, w.size, b.below)

        module _ (order'' : List ℕ) (top' : ℕ) (p : Pushed len top order' order'' top') (so' : length order'' ≡ length order') where
          -- the back of the order was kept by the climb
          back : drop top order' ≡ drop top order
          back =
              let e : len + top' ≡ top = omega (arith, p.lower) in
              rw (← e) (sym (drop-drop top' len order') ∙ ap (drop top') c.kept ∙ drop-drop top' len order)

          stacked : drop top' order'' ≡ path etree k (drop top order) k r ++ drop top order
          stacked = p.stack ∙ rw (back, c.walked)

          pub reach_more : Reaching g k rows etree order₀ marks' order'' top' (j + 1)
          reach_more = record {
            inside = omega (arith, p.lower, w.inside, so, so');
            size = so' ∙ so ∙ w.size;
            size_marks = sm ∙ w.size_marks;
            left = rw stacked (visits_more etree k rows (drop top order) j h q ∙ w.left);
            climb = rw stacked (path_climbs g (length order₀) etree par k b.below (drop top order) k r (omega arith) on w.climb);
            marked = rw stacked c.marked;
          }

    pub reach_done : length rows ≤ j → Reached k rows etree marks order top
    reach_done h =
        let e = visits-done etree k rows (drop top order) j h ∙ w.left in
        record { inside = w.inside; ordered = e; marked = rw (← e) w.marked }
