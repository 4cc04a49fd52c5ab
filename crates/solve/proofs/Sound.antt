-- Of an L that passed its test, what a column has that is lent as the part between its two pointers; and the test itself. Assumes nothing.
use Prim.Native.Nat.{ℕ, ◌+◌, ◌-◌, ◌<◌, ◌≤◌}
use mathlib.Core.Path.{◌≡◌, refl, sym, ◌∙◌, ap}
use mathlib.Core.Bool.{Bool, true, false, not, ◌&&◌, ◌||◌}
use mathlib.Core.List.{List, [], ◌∷◌}
use native.Mathlib.Omega.{arith}
use borrow.Author.Tests.{not-false, ltb-true, ltb-false}
use lib.Dec.{ltb}
use lib.Ieee.{Float}
use lib.ListN.{length, get_or}
use Rattle.desk.specs.Lists.{any, upto}
use Rattle.desk.proofs.Any.{none-at, none_upto}
use Rattle.desk.proofs.Both.{both, neither}
use Rattle.csc.specs.Csc.{column, bad_pointers}
use Rattle.csc.proofs.Steady.{Steady, steady, part_rises, part_ends, part_column, part_length}
use Rattle.solve.specs.Solve.{spoiled_l}
use Rattle.solve.specs.Kernels.{Factored}

-- the test of a row of column i, and of column i
abbrev pub outside_of : ℕ → ℕ → ℕ → Bool
outside_of n i r = not (ltb i r && ltb r n)

abbrev pub spoiled_at : ℕ → List ℕ → List ℕ → ℕ → Bool
spoiled_at n lp li i = any (outside_of n i) (column lp li i)

-- column i may be lent, and its rows are below n
pub record Lent (n : ℕ) (lp li : List ℕ) (lx : List Float) (i : ℕ) : Type 0 where
  pub pointers : i + 1 < length lp
  pub rises : get_or lp i 0 ≤ get_or lp (i + 1) 0
  pub in_rows : get_or lp (i + 1) 0 ≤ length li
  pub in_values : get_or lp (i + 1) 0 ≤ length lx
  pub as_many : length (column lp li i) ≡ length (column lp lx i)
  pub below : (k : ℕ) → k < length (column lp li i) → get_or (column lp li i) k 0 < n

module _ {n : ℕ} {lp li : List ℕ} {lx : List Float} (F : Factored n lp li lx) where
  last : ℕ
  last = get_or lp (length lp - 1) 0

  -- the four tests that L passed
  record Passed : Type 0 where
    pointers : Steady n last lp
    rows : last ≤ length li
    vals : last ≤ length lx
    columns : any (spoiled_at n lp li) (upto n) ≡ false

  passed : Passed
  unfolding spoiled_l last
  passed =
      let a = neither _ (any (spoiled_at n lp li) (upto n)) F.sound in
      let b = neither _ (ltb (length lx) last) a.0 in
      let d = neither (bad_pointers last lp) (ltb (length li) last) b.0 in
      record {
        pointers = steady n last lp F.pointers d.0;
        rows = ltb-false _ _ d.1;
        vals = ltb-false _ _ b.1;
        columns = a.1;
      }

  module _ {i : ℕ} (h : i < n) where
    row_below : (k : ℕ) → k < length (column lp li i) → get_or (column lp li i) k 0 < n
    row_below k l =
        let row = get_or (column lp li i) k 0 in
        let test = none_upto (spoiled_at n lp li) n i passed.columns (omega arith) in
        ltb-true row n (both (ltb i row) (ltb row n) (not-false _ (none-at (outside_of n i) 0 (column lp li i) test k l))).1

    pub lent : Lent n lp li lx i
    lent =
        let S = passed.pointers in
        let ends = part_ends S h refl refl in
        record {
          pointers = omega (arith, F.pointers);
          rises = part_rises S h refl refl;
          in_rows = omega (arith, ends, passed.rows);
          in_values = omega (arith, ends, passed.vals);
          as_many =
              ap length (sym (part_column S h refl refl li passed.rows))
              ∙ part_length S h refl refl li passed.rows
              ∙ sym (part_length S h refl refl lx passed.vals)
              ∙ ap length (part_column S h refl refl lx passed.vals);
          below = row_below;
        }

-- ---- the test itself

-- the three tests before the columns, and the columns
pub spoiled_is : (n : ℕ) (lp li : List ℕ) (lx : List Float) {l : ℕ} {t f : Bool} → l ≡ get_or lp (length lp - 1) 0 → t ≡ bad_pointers l lp →
    (t || ltb (length li) l || ltb (length lx) l) ≡ f → (f || any (spoiled_at n lp li) (upto n)) ≡ spoiled_l n lp li lx
unfolding spoiled_l
spoiled_is n lp li lx p q r = rw (← r, q, p)

-- with no pointer at all
pub spoiled_empty : (n : ℕ) (lp li : List ℕ) (lx : List Float) → length lp ≡ 0 → true ≡ spoiled_l n lp li lx
unfolding spoiled_l bad_pointers
spoiled_empty n [] li lx e = refl
spoiled_empty n (x ∷ lp) li lx e = absurd (omega arith)
