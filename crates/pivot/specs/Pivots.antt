-- Document 01: the pivot. "All in f64, each product, sum and quotient rounded once, never fused." Assumes nothing.
use Rattle.std.specs.Prelude.{Bool, true, false, cond, ℤ, Float}
use Rattle.std.specs.Float.{binary64}
use Rattle.std.specs.Float.Ieee.{add as addAt, sub as subAt, mul as mulAt, div as divAt, lt, eq, of_int, of_bits}
use Rattle.pivot.specs.declared.Regularisation.{Regularisation}
use Rattle.pivot.specs.declared.Regularisation.TheVariants.{Off, On}
use Rattle.pivot.specs.declared.Pivot.{Pivot}

infixl 60 ◌⊕◌
infixl 60 ◌⊖◌
infixl 70 ◌⊗◌
infixl 70 ◌⊘◌
-- the operations of binary64, and two numbers
abbrev pub ◌⊕◌ : Float → Float → Float
x ⊕ y = addAt binary64 x y

abbrev pub ◌⊖◌ : Float → Float → Float
x ⊖ y = subAt binary64 x y

abbrev pub ◌⊗◌ : Float → Float → Float
x ⊗ y = mulAt binary64 x y

abbrev pub ◌⊘◌ : Float → Float → Float
x ⊘ y = divAt binary64 x y

abbrev pub +0 : Float
+0 = of_bits binary64 0

abbrev pub one : Float
one = of_bits binary64 0x3ff0_0000_0000_0000

-- "regularisation is off, or on with an eps and a delta (defaults 1e-12 and 1e-7)"
abbrev pub defaults : Regularisation
defaults = On (of_bits binary64 0x3d71_9799_812d_ea11) (of_bits binary64 0x3e7a_d7f2_9abc_af48)

-- "A pivot is one value: the number, its reciprocal, and whether it was shifted." "Dinv = 1/D."
abbrev pub made : Float → Bool → Pivot
made d shifted = record { value = d; reciprocal = one ⊘ d; shifted = shifted }

-- "With regularisation on, if D*sign < eps (strictly) then D = delta*sign and the shift counts."
unfoldable pub pivot_of : Regularisation → ℤ → Float → Pivot
pivot_of Off sign d = made d false
pivot_of (On eps delta) sign d =
    let s = of_int binary64 sign in cond (lt (d ⊗ s) eps) (made (delta ⊗ s) true) (made d false)

-- "Zero refuses": "+0 or -0 after any shift"; NaN is not zero
abbrev pub is_zero : Float → Bool
is_zero d = eq d +0

-- "above zero adds one to inertia"; NaN is not above zero
abbrev pub is_positive : Float → Bool
is_positive d = lt +0 d
