-- A way up by parents: it starts at an entry of row j, marks as it goes, and is done at a marked unknown. Assumes nothing.
use Prim.Native.Nat.{ℕ, ◌-◌, ◌<◌}
use mathlib.Core.Path.{◌≡◌}
use mathlib.Core.Bool.{true}
use mathlib.Core.Logic.{◌⊎◌, inl, inr, ⊎_elim}
use mathlib.Core.List.{List}
use native.Mathlib.Omega.{arith}
use lib.ListN.{get_or}
use Rattle.tree.specs.Strike.{joined}
use Rattle.tree.specs.Marks.{Setting, On, Climbing, Visitable, Visited, Climbed}
use Rattle.tree.proofs.Marking.{marks, still_marked, visitable, visit_rises, visit_on, visit_more}

-- the way up from start stands at `at`
pub record Way (s : Setting) (start j at : ℕ) (work₀ work lnz etree : List ℕ) : Type 0 where
  pub row : Climbing s j at work lnz etree
  pub on : On s.g j at
  pub still : (i : ℕ) → get_or work₀ i 0 ≡ j → get_or work i 0 ≡ j
  pub reached : (at ≡ start) ⊎ (get_or work start 0 ≡ j)

-- where the way stands at a marked unknown it may stand anywhere
moved : (s : Setting) (j at at' : ℕ) (w l e : List ℕ) → Climbing s j at w l e → get_or w at 0 ≡ j → Climbing s j at' w l e
moved s j at at' w l e c m = record {
  below = c.below;
  tables = c.tables;
  here = c.here;
  row = c.row;
  closed = λ i h q. inl (⊎_elim (λ k. k) (λ a. rw a m) (c.closed i h q));
  fresh = c.fresh;
}

module _ (s : Setting) (start j i : ℕ) (w₀ w l e : List ℕ) (y : Way s start j i w₀ w l e) where
  -- at a marked unknown the way is done
  pub way_done : get_or w i 0 ≡ j → Climbed s start j w₀ w l e
  way_done m = record {
    row = moved s j i j w l e y.row m;
    reached = ⊎_elim (λ q. rw (← q) m) (λ q. q) y.reached;
    still = y.still;
  }

  module _ (un : get_or w i 0 ≡ j → ⊥) where
    -- an unmarked one is no j
    way_listed : (i < j) × (joined s.g i i j ≡ true)
    way_listed = ⊎_elim (λ q. absurd (un (rw q y.row.here))) (λ h. h) y.on

    pub way_visitable : Visitable i w l e
    way_visitable = visitable s j i w l e y.row way_listed.0 way_listed.1 un

    module _ (w' l' e' : List ℕ) (r : ℕ) (v : Visited i j w w' l l' e e' r) where
      pub way_more : Way s start j r w₀ w' l' e'
      way_more =
          let inside = way_visitable.room_work in
          record {
            row = visit_more s j i w l e y.row way_listed.0 way_listed.1 un w' l' e' r v;
            on = visit_on s j i w l e y.row way_listed.0 way_listed.1 un w' l' e' r v;
            still = λ u h. rw v.marked (still_marked w j i inside u (y.still u h));
            reached = inr (rw v.marked (⊎_elim (λ q. rw (← q) (marks w j i inside)) (λ q. still_marked w j i inside start q) y.reached));
          }

      -- a step up is a step nearer to j
      pub way_nearer : j - r < j - i
      way_nearer = omega (arith, way_listed.0, visit_rises s j i w l e y.row way_listed.0 way_listed.1 un w' l' e' r v)
