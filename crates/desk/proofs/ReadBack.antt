-- A signed number that the machine reads back from its bits is the number, so a test of the one is a test of the other. Assumes nothing.
use mathlib.Core.Path.{◌≡◌, sym, ap, ◌∙◌}
use mathlib.Core.Bool.{Bool}
use lib.IntN.{ℤ}
use mir.Syntax.{Width}
use mir.Val.{SFits, to_z, of_z}
use mir.ValLaws.{to_z-of_z}

pub read_back : (p : ℤ → Bool) (w : Width) (z : ℤ) {b : Bool} → SFits w z → p (to_z w (of_z w z)) ≡ b → p z ≡ b
read_back p w z f e = sym (ap p (to_z-of_z w z f)) ∙ e
