-- `row::advance` meets its contract, by the test of the pivot. Assumes nothing.
use Prim.Native.Nat.{ℕ, ◌+◌}
use mathlib.Core.Path.{◌≡◌, refl, sym, ◌∙◌}
use mathlib.Core.Bool.{true, false}
use Rattle.std.specs.Prelude.{Ok, Err}
use Rattle.pivot.specs.declared.Pivot.{Pivot}
use Rattle.pivot.specs.Pivots.{is_zero, is_positive}
use Rattle.row.specs.declared.Progress.{Progress}
use Rattle.row.specs.Steps.{plus, progress, zero_pivot, step_of}
use Rattle.row.proofs.advance.Goals as goal

module _ (t : Progress) (p : Pivot) {shifts : ℕ} (e : shifts ≡ plus t.shifts p.shifted) where
  zero-step : is_zero p.value ≡ true → Err (zero_pivot t.row shifts) ≡ step_of p t
  unfolding step_of
  zero-step z = rw (z, e)

  done-step : {inertia : ℕ} → is_zero p.value ≡ false → inertia ≡ plus t.inertia (is_positive p.value) →
      Ok (progress (t.row + 1) inertia shifts) ≡ step_of p t
  unfolding step_of
  done-step z i = rw (z, e, i)

pub returns-then-is_zero : goal.returns-then-is_zero
returns-then-is_zero c =
    let z = sym c.is_zero.ensures ∙ c.if-is_zero.true in
    record { answer = zero-step _ _ c.plus-shifts.ensures z; pivot = refl; reciprocal = rw z }

pub returns : goal.returns
returns c =
    let z = sym c.is_zero.ensures ∙ c.if-is_zero.false in
    record {
      answer = done-step _ _ c.plus-shifts.ensures z (c.plus-inertia.ensures ∙ rw c.is_positive.ensures);
      pivot = refl;
      reciprocal = rw z;
    }
