-- Where none of a call's list of refusals is given no line applies. Assumes nothing.
use mathlib.Core.Path.{◌≡◌, refl}
use mathlib.Core.Bool.{Bool, true, false}
use mathlib.Core.List.{List}
use Prim.Native.Nat.{ℕ}
use native.Mathlib.Omega.{arith}
use Rattle.std.specs.Prelude.{Ok, Err}
use Rattle.desk.specs.Desk.{Verdict, Line, ◌⇒◌⨾◌, first}
use Rattle.desk.specs.declared.Refusal.{Refusal}

pub refused_not_accepted : (r : Refusal) → ◌≡◌ {A = Verdict} (Err r) (Ok tt) → ⊥
refused_not_accepted r e = let z : ◌≡◌ {A = ℕ} 0 1 = cc in omega arith

module _ (r : Refusal) (ls : List Line) where
  pub none-given : (t : Bool) → first (t ⇒ r ⨾ ls) ≡ Ok tt → (t ≡ false) × (first ls ≡ Ok tt)
  unfolding first
  none-given true e = absurd (refused_not_accepted r e)
  none-given false e = (refl, e)
