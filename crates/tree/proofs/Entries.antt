-- The entries of a column of an upper triangle: the rows that it lists are those that `entry` joins to it, and perhaps its diagonal.
-- Assumes nothing.
use Prim.Native.Nat.{ℕ, ◌<◌, ◌≤◌}
use mathlib.Core.Path.{◌≡◌, refl, sym, ◌∙◌}
use mathlib.Core.Bool.{false}
use mathlib.Core.Logic.{inl, inr}
use mathlib.Core.List.{List}
use native.Mathlib.Omega.{arith}
use native.Mathlib.Nat.{min-eq_left, max-eq_right}
use native.Mathlib.Decide.{ℕ_discrete}
use borrow.Author.Tests.{ltb-false, eqb-true, eq-eqb, ne_eqb}
use lib.Dec.{ltb, eqb}
use lib.ListN.{length, get_or}
use Rattle.desk.specs.Lists.{any}
use Rattle.desk.proofs.Any.{any_at, any_where, none-at, none_upto}
use Rattle.csc.specs.Csc.{column, not_upper}
use Rattle.tree.specs.Strike.{entry}
use Rattle.tree.specs.Marks.{Column}

module _ (n : ℕ) (ptr rows : List ℕ) (upper : not_upper n ptr rows ≡ false) (j : ℕ) (h : j < n) where
  -- no row exceeds its column
  pub row_at_most : (q : ℕ) → q < length (column ptr rows j) → get_or (column ptr rows j) q 0 ≤ j
  unfolding not_upper
  row_at_most q l =
      ltb-false j (get_or (column ptr rows j) q 0)
      (none-at (ltb j) 0 (column ptr rows j) (none_upto (λ c. any (ltb c) (column ptr rows c)) n j upper (omega arith)) q l)

  entry_above : (i : ℕ) → i < j → entry ptr rows i j ≡ any (eqb i) (column ptr rows j)
  unfolding entry
  entry_above i l = let le : i ≤ j = omega arith in rw (ne_eqb i j (λ e. omega arith), min-eq_left le, max-eq_right le)

  entries : Column (entry ptr rows) j (column ptr rows j)
  entries =
      let col = column ptr rows j in
      record {
        on = λ q l.
            let i = get_or col q 0 in
            elim (ℕ_discrete i j) [
              | yes e ↦ inl e
              | no ne ↦ let above : i < j = omega (arith, row_at_most q l) in inr (above, entry_above i above ∙ any_at (eqb i) 0 col q l (eq-eqb i i refl))
            ];
        all = λ i l e.
            let (q, b, t) = any_where (eqb i) 0 col (sym (entry_above i l) ∙ e) in
            (q, b, sym (eqb-true i (get_or col q 0) t));
      }

  pub column-entries : {part : List ℕ} → part ≡ column ptr rows j → Column (entry ptr rows) j part
  column-entries q = rw q entries
