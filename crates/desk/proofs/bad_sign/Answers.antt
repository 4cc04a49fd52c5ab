-- `desk::bad_sign` meets its contract: below -1 and from 2 on a sign is bad, between them it is not.
-- Assumes nothing.
use Prim.Native.Nat.{zero, suc}
use mathlib.Core.Path.{◌≡◌, refl}
use mathlib.Core.Bool.{true, false, true≢false, false≢true}
use native.Mathlib.Omega.{arith}
use borrow.Author.Tests.{ltb-true, ltb-false}
use lib.IntN.{ℤ, pos, negsuc}
use lib.Signed.{lt_z}
use mir.Syntax.{w8}
use Rattle.desk.specs.Desk.{bad_sign}
use Rattle.desk.proofs.ReadBack.{read_back}
use Rattle.desk.proofs.bad_sign.Goals as goal

under : (z : ℤ) → lt_z z (negsuc 0) ≡ true → true ≡ bad_sign z
under (pos n) e = absurd (false≢true e)
under (negsuc zero) e = absurd (false≢true e)
under (negsuc (suc n)) e = refl

within : (z : ℤ) → lt_z z (negsuc 0) ≡ false → lt_z z (pos 2) ≡ true → false ≡ bad_sign z
within (pos zero) l u = refl
within (pos (suc zero)) l u = refl
within (pos (suc (suc n))) l u = absurd (omega (arith, ltb-true (suc (suc n)) 2 u))
within (negsuc zero) l u = refl
within (negsuc (suc n)) l u = absurd (omega (arith, ltb-false 0 (suc n) l))

above : (z : ℤ) → lt_z z (pos 2) ≡ false → true ≡ bad_sign z
above (pos zero) e = absurd (true≢false e)
above (pos (suc zero)) e = absurd (true≢false e)
above (pos (suc (suc n))) e = refl
above (negsuc n) e = absurd (true≢false e)

pub returns-in-minus1-to-1 : goal.returns-in-minus1-to-1
returns-in-minus1-to-1 c =
    let z = c.args.sign in
    within z (read_back (λ y. lt_z y (negsuc 0)) w8 z c.ranges.sign (cc)) (read_back (λ y. lt_z y (pos 2)) w8 z c.ranges.sign (cc))

pub returns-in_default : goal.returns-in_default
returns-in_default c = under c.args.sign (read_back (λ y. lt_z y (negsuc 0)) w8 c.args.sign c.ranges.sign (cc))

pub returns-in_default-2 : goal.returns-in_default-2
returns-in_default-2 c = above c.args.sign (read_back (λ y. lt_z y (pos 2)) w8 c.args.sign c.ranges.sign (cc))
