use Prim.Native.Nat.{ℕ, ◌-◌}
use mathlib.Core.Bool.{true, not, ◌||◌}
use mathlib.Core.List.{List, [], ◌∷◌}
use mathlib.Core.Path.{◌≡◌, refl, sym, ◌∙◌}
use native.Mathlib.Omega.{arith}
use borrow.Author.Tests.{eqb-true, eqb-false, eq-eqb, ne_eqb}
use lib.Dec.{eqb}
use lib.ListN.{length, get_or}
use Rattle.csc.specs.Csc.{fall, bad_pointers}
use Rattle.csc.proofs.bad_pointers.Goals as goal

none : (m : ℕ) (ptr : List ℕ) → length ptr ≡ 0 → true ≡ bad_pointers m ptr
unfolding bad_pointers
none m [] e = refl
none m (x ∷ ptr) e = absurd (omega arith)

late : (m : ℕ) (ptr : List ℕ) → (get_or ptr 0 0 ≡ 0 → ⊥) → not (eqb (get_or ptr 0 0) 0) ≡ bad_pointers m ptr
unfolding bad_pointers
late m [] h = absurd (h refl)
late m (x ∷ ptr) h = rw (ne_eqb x 0 h)

rest : (m : ℕ) (ptr : List ℕ) → (length ptr ≡ 0 → ⊥) → get_or ptr 0 0 ≡ 0 → fall ptr || not (eqb (get_or ptr (length ptr - 1) 0) m) ≡ bad_pointers m ptr
unfolding bad_pointers
rest m [] e h = absurd (e refl)
rest m (x ∷ ptr) e h = rw (eq-eqb x 0 h)

pub returns-then-is_empty : goal.returns-then-is_empty
returns-then-is_empty c = none _ _ (eqb-true _ _ (sym c.is_empty.ensures ∙ c.if-is_empty.true))

pub returns-then-late : goal.returns-then-late
returns-then-late c = late _ _ c.if-late.true

pub returns-else-late : goal.returns-else-late
returns-else-late c =
    rw (c.falls.ensures, c.wide.ensures) (rest _ _ (eqb-false _ _ (sym c.is_empty.ensures ∙ c.if-is_empty.false)) c.if-late.false)
