-- The rows one after the other beside the run of the definition: before the next row, after it, at a zero pivot, and in the end.
-- Assumes nothing.
use Prim.Native.Nat.{ℕ, suc, ◌+◌, ◌-◌, ◌<◌, ◌≤◌}
use mathlib.Core.Path.{◌≡◌, refl, sym, ap, ◌∙◌}
use mathlib.Core.Bool.{Bool, true, false, cond}
use mathlib.Core.List.{List, [], ◌∷◌, ◌++◌, append_assoc}
use native.Mathlib.Nat.{sub-zero}
use native.Mathlib.Numerals.{add-one}
use native.Mathlib.Omega.{arith}
use lib.IntN.{ℤ, pos}
use lib.Ieee.{Float, nan}
use lib.ListN.{length, get_or, set, take, drop, replicate, length-append}
use lib.Seq.{set_at, drop-cons}
use Rattle.std.specs.Prelude.{Result, Ok, Err}
use Rattle.desk.specs.Lists.{from, over}
use Rattle.desk.proofs.Over.{take-written}
use Rattle.csc.specs.Csc.{Csc}
use Rattle.tree.specs.Strike.{parents}
use Rattle.pivot.specs.declared.Regularisation.{Regularisation}
use Rattle.pivot.specs.declared.Pivot.{Pivot}
use Rattle.pivot.specs.Pivots.{pivot_of, is_zero, is_positive, +0}
use Rattle.row.specs.declared.Progress.{Progress}
use Rattle.row.specs.declared.ZeroPivot.{ZeroPivot}
use Rattle.row.specs.Row.{Row, row_of_matrix}
use Rattle.row.specs.Kernels.{Held}
use Rattle.row.specs.Steps.{plus, progress, zero_pivot, step_of, Counted, Pivoted, Ready, Stepped}
use Rattle.factor.specs.Factor.{Work, begun, row_at, pivoted, run}
use Rattle.factor.specs.Steps.{lists_of, whole, Runnable, Ran}
use Rattle.factor.proofs.Runs.{row_at-is, graph, ran, step, run_step, run-whole, Going, begun_going, step_going}

-- ---- what a step says

pick_done : (b : Bool) (z : ZeroPivot) (c t : Progress) → Ok t ≡ cond b (Err z) (Ok c) → (b ≡ false) × (t ≡ c)
pick_done true z c t e = cc
pick_done false z c t e = (refl, cc)

pick_zero : (b : Bool) (z u : ZeroPivot) (c : Progress) → Err u ≡ cond b (Err z) (Ok c) → (b ≡ true) × (u ≡ z)
pick_zero true z u c e = (refl, cc)
pick_zero false z u c e = cc

step_done : (p : Pivot) (t u : Progress) → Ok u ≡ step_of p t →
    (is_zero p.value ≡ false) × (u ≡ progress (t.row + 1) (plus t.inertia (is_positive p.value)) (plus t.shifts p.shifted))
unfolding step_of
step_done p t u e = pick_done (is_zero p.value) _ _ u e

step_zero : (p : Pivot) (t : Progress) (u : ZeroPivot) → Err u ≡ step_of p t → (is_zero p.value ≡ true) × (u ≡ zero_pivot t.row (plus t.shifts p.shifted))
unfolding step_of
step_zero p t u e = pick_zero (is_zero p.value) _ u _ e

plus_most : (k m : ℕ) (b : Bool) → k ≤ m → plus k b ≤ m + 1
plus_most k m true h = omega arith
plus_most k m false h = omega arith

-- ---- one more in a table whose front is done

put_zeros : (l : List Float) (n k : ℕ) (v : Float) → length l ≡ k → k < n → set (l ++ replicate (n - k) +0) k v ≡ (l ++ (v ∷ [])) ++ replicate (n - suc k) +0
put_zeros l n k v e h = let m : n - k ≡ suc (n - suc k) = omega arith in rw (m, append_assoc) (set_at l +0 (replicate (n - suc k) +0) v k e)

put_over : (l old : List Float) (k : ℕ) (v : Float) → length l ≡ k → k < length old → set (over l old) k v ≡ over (l ++ (v ∷ [])) old
unfolding over
put_over l old k v e h =
    rw (length-append, e, add-one, append_assoc, drop-cons old k nan h) (set_at l (get_or old k nan) (drop (suc k) old) v k e)

-- ---- between two rows

pub record Running (n : ℕ) (A : Csc) (dsigns : List ℤ) (reg : Regularisation) (lp li₀ : List ℕ) (lx₀ dinv₀ : List Float) (li next marks : List ℕ)
    (lx d dinv y : List Float) (t : Progress) : Type 0 where
  pub most : t.row ≤ n
  pub going : Going n (graph A) t.row (ran n A dsigns reg t.row)
  pub inertia : t.inertia ≡ (ran n A dsigns reg t.row).inertia
  pub shifts : t.shifts ≡ (ran n A dsigns reg t.row).shifts
  pub counted : Counted t
  pub held : Held (graph A) n (λ c. t.row) (lists_of (ran n A dsigns reg t.row) li₀ lx₀) lp li next lx
  pub pivots : d ≡ (ran n A dsigns reg t.row).d ++ replicate (n - t.row) +0
  pub reciprocals : dinv ≡ over (ran n A dsigns reg t.row).dinv dinv₀
  pub unmarked : marks ≡ replicate n 0
  pub cleared : y ≡ replicate n +0

module _ (A : Csc) (etree : List ℕ) (dsigns : List ℤ) (reg : Regularisation) (lp li₀ next₀ marks₀ order₀ : List ℕ) (lx₀ d₀ dinv₀ y₀ : List Float)
    (b : Runnable A etree dsigns lp li₀ next₀ marks₀ order₀ lx₀ d₀ dinv₀ y₀) where
  pub run-start : Running (length y₀) A dsigns reg lp li₀ lx₀ dinv₀ li₀ next₀ marks₀ lx₀ d₀ dinv₀ y₀ (progress 0 0 0)
  unfolding run begun over from
  run-start = record {
    most = omega arith;
    going = begun_going (length y₀) (graph A);
    inertia = refl;
    shifts = refl;
    counted = b.ready.counted;
    held = b.ready.held;
    pivots = rw sub-zero b.zeros;
    reciprocals = refl;
    unmarked = b.ready.unmarked;
    cleared = b.ready.cleared;
  }

  module _ (li next marks : List ℕ) (lx d dinv y : List Float) (t : Progress) (sy : length y ≡ length y₀)
      (w : Running (length y₀) A dsigns reg lp li₀ lx₀ dinv₀ li next marks lx d dinv y t) where
    -- all is ready for the next row
    pub run-ready : t.row < length y₀ → (order : List ℕ) → length order ≡ length order₀ → length d ≡ length d₀ → length dinv ≡ length dinv₀ →
        Ready (lists_of (ran (length y₀) A dsigns reg t.row) li₀ lx₀) t A etree dsigns lp li next marks order lx d dinv y
    run-ready h order so sd sv =
        let R = b.ready in
        record {
          small = rw sy R.small;
          below = rw sy h;
          counted = w.counted;
          pointers = rw sy R.pointers;
          steady = R.steady;
          values = R.values;
          some = R.some;
          upper = rw sy R.upper;
          tree = rw sy R.tree;
          signs = rw sy R.signs;
          pivots = sd ∙ R.pivots ∙ sym sy;
          reciprocals = sv ∙ R.reciprocals ∙ sym sy;
          held = rw sy w.held;
          room = so ∙ R.room ∙ sym sy;
          unmarked = rw sy w.unmarked;
          cleared = rw sy w.cleared;
        }

    -- after the last row
    pub run_end : length y₀ ≤ t.row → Ran (length y₀) A (whole (length y₀) A etree dsigns reg) li₀ li lx₀ lx d dinv₀ dinv (Ok t)
    run_end h =
        let e : t.row ≡ length y₀ = omega (arith, w.most) in
        let same : ran (length y₀) A dsigns reg t.row ≡ whole (length y₀) A etree dsigns reg = rw (e, b.ready.tree) in
        rw (← same) (record {
          answer = rw (w.going.goes_on, ← w.inertia, ← w.shifts, ← e);
          rows = w.held.rows_laid;
          values = w.held.values_laid;
          pivots = rw w.going.pivots w.pivots;
          reciprocals = w.reciprocals;
        })

    -- a row more
    module _ (h : t.row < length y₀) (li' next' marks' : List ℕ) (lx' d' dinv' y' : List Float) (r : Result Progress ZeroPivot)
        (x : Stepped (lists_of (ran (length y₀) A dsigns reg t.row) li₀ lx₀) t (length y) A etree dsigns reg lp li' next' marks' lx' d d' dinv dinv' y' r) where
      abbrev so_far : Work
      so_far = ran (length y₀) A dsigns reg t.row

      abbrev the_row : Row
      the_row = row_at (length y₀) A (parents (length y₀) (graph A)) t.row so_far

      abbrev pivot : Pivot
      pivot = pivot_of reg (get_or dsigns t.row (pos 0)) the_row.d

      abbrev after : Work
      after = step (length y₀) A (parents (length y₀) (graph A)) dsigns reg t.row so_far

      -- it is the row of the definition
      same_row : row_of_matrix (length y) A etree t.row (take t.row dinv) so_far.rows so_far.vals ≡ the_row
      same_row =
          rw (sy, b.ready.tree, take-written t.row so_far.dinv dinv₀ dinv w.reciprocals w.going.reciprocals)
          (sym (row_at-is (length y₀) A (parents (length y₀) (graph A)) t.row so_far))

      ran_more : ran (length y₀) A dsigns reg (suc t.row) ≡ after
      ran_more = run_step (length y₀) A (parents (length y₀) (graph A)) dsigns reg t.row (begun (length y₀)) w.going.goes_on

      made : Pivoted t pivot d d' dinv dinv' r
      made = rw same_row at x.pivoted

      held : Held (graph A) (length y₀) (λ c. suc t.row) (lists_of after li₀ lx₀) lp li' next' lx'
      unfolding pivoted
      held = rw (same_row, sy) at x.held

      -- D and its pivot, in either case
      pivots : d' ≡ after.d ++ replicate (length y₀ - suc t.row) +0
      unfolding pivoted
      pivots = made.pivot ∙ rw w.pivots (put_zeros so_far.d (length y₀) t.row pivot.value w.going.pivots h)

      module _ (u : Progress) (q : r ≡ Ok u) where
        done : (is_zero pivot.value ≡ false) × (u ≡ progress (t.row + 1) (plus t.inertia (is_positive pivot.value)) (plus t.shifts pivot.shifted))
        done = step_done pivot t u (sym q ∙ made.answer)

        moves : u ≡ progress (suc t.row) (plus t.inertia (is_positive pivot.value)) (plus t.shifts pivot.shifted)
        moves = done.1 ∙ ap (λ (k : ℕ). progress k (plus t.inertia (is_positive pivot.value)) (plus t.shifts pivot.shifted)) (add-one t.row)

        pub run_moves : u.row ≡ t.row + 1
        run_moves = ap (λ (v : Progress). v.row) done.1

        pub run_more : Running (length y₀) A dsigns reg lp li₀ lx₀ dinv₀ li' next' marks' lx' d' dinv' y' u
        unfolding pivoted
        run_more = record {
          most = rw moves h;
          going = rw (moves, ran_more) (step_going (length y₀) A b.ready.upper dsigns reg t.row h so_far w.going done.0);
          inertia = rw (moves, ran_more, w.inertia);
          shifts = rw (moves, ran_more, w.shifts);
          counted = rw moves (record {
            inertia = omega (arith, plus_most t.inertia t.row (is_positive pivot.value) w.counted.inertia);
            shifts = omega (arith, plus_most t.shifts t.row pivot.shifted w.counted.shifts);
          });
          held = rw (moves, ran_more) held;
          pivots = rw (moves, ran_more) pivots;
          reciprocals =
              rw (moves, ran_more, done.0)
              (rw done.0 at made.reciprocal ∙ rw w.reciprocals
              (put_over so_far.dinv dinv₀ t.row pivot.reciprocal w.going.reciprocals (omega (arith, b.ready.reciprocals))));
          unmarked = rw (← sy) x.unmarked;
          cleared = rw (← sy) x.cleared;
        }

      pub run_zero : (u : ZeroPivot) → r ≡ Err u → Ran (length y₀) A (whole (length y₀) A etree dsigns reg) li₀ li' lx₀ lx' d' dinv₀ dinv' (Err u)
      unfolding pivoted
      run_zero u q =
          let z = step_zero pivot t u (sym q ∙ made.answer) in
          let stopped : (ran (length y₀) A dsigns reg (suc t.row)).stopped ≡ true = rw ran_more z.0 in
          let all : whole (length y₀) A etree dsigns reg ≡ after =
          rw b.ready.tree (run-whole (length y₀) A (parents (length y₀) (graph A)) dsigns reg (suc t.row) (length y₀) (begun (length y₀)) h stopped) ∙ ran_more in
          let back : suc t.row - 1 ≡ t.row = omega arith in
          let many : length after.d ≡ suc t.row = simp length-append (omega (arith, w.going.pivots)) in
          rw all (record {
            answer = rw (z.1, z.0, many, back, w.shifts);
            rows = held.rows_laid;
            values = held.values_laid;
            pivots = rw many pivots;
            reciprocals = rw z.0 (rw z.0 at made.reciprocal ∙ w.reciprocals);
          })
