-- `analysis::permuted_signs` meets its contract: all +1 where no signs came, and the signs through the ordering where they did.
-- Assumes nothing.
use Prim.Native.Nat.{ℕ}
use mathlib.Core.Path.{◌≡◌, refl, sym, ap, ◌∙◌}
use mathlib.Core.Logic.{⊎_elim}
use mathlib.Core.List.{List, [], ◌∷◌}
use native.Mathlib.Omega.{arith}
use borrow.Author.Tests.{eqb-true, eqb-false}
use lib.IntN.{ℤ, pos}
use lib.ListN.{length, replicate}
use Rattle.desk.specs.Lists.{over}
use Rattle.order.specs.Order.{permuted}
use Rattle.analysis.specs.Analysis.{new_signs}
use Rattle.analysis.proofs.permuted_signs.Goals as goal

none : (n : ℕ) (perm : List ℕ) (signs : List ℤ) → length signs ≡ 0 → replicate n (pos 1) ≡ new_signs n perm signs
none n perm [] e = refl
none n perm (s ∷ signs) e = absurd (omega arith)

some : (n : ℕ) (perm : List ℕ) (signs : List ℤ) → (length signs ≡ 0 → ⊥) → permuted (pos 0) perm signs ≡ new_signs n perm signs
some n perm [] e = absurd (e refl)
some n perm (s ∷ signs) e = refl

pub permute-requires : goal.permute-requires
permute-requires c =
    let f = c.requires in
    record {
      ordering = f.ordering;
      reads = ⊎_elim (λ e. absurd (eqb-false _ _ (sym c.is_empty.ensures ∙ c.if-is_empty.false) e)) (λ e. omega arith) f.signed;
      writes = f.room;
    }

pub returns-then-is_empty : goal.returns-then-is_empty
returns-then-is_empty c =
    let a = c.args in
    let p = a.perm.now in
    c.fill.ensures ∙ ap (λ (l : List ℤ). over l a.dsigns.now) (none (length p) p a.signs.now (eqb-true _ _ (sym c.is_empty.ensures ∙ c.if-is_empty.true)))

pub returns-else-is_empty : goal.returns-else-is_empty
returns-else-is_empty c =
    let a = c.args in
    let p = a.perm.now in
    c.permute.ensures (pos 0) ∙ ap (λ (l : List ℤ). over l a.dsigns.now) (some (length p) p a.signs.now (eqb-false _ _ (sym c.is_empty.ensures ∙ c.if-is_empty.false)))
