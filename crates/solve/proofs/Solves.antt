-- The two triangular solves, column by column: a turn of the loop is a step of the definition, and at the end nothing is left. Assumes nothing.
use Prim.Native.Nat.{ℕ, suc, ◌+◌, ◌-◌, ◌<◌, ◌≤◌}
use mathlib.Core.Path.{◌≡◌, ap, ◌∙◌}
use mathlib.Core.List.{List, [], ◌∷◌, reverse, reverse-append}
use native.Mathlib.Numerals.{add-one}
use native.Mathlib.Omega.{arith}
use lib.Ieee.{Float, nan}
use lib.ListN.{length, get_or, set}
use Rattle.desk.specs.Lists.{from, upto, over}
use Rattle.desk.proofs.Upto.{upto_more}
use Rattle.desk.proofs.Over.{over-whole}
use Rattle.csc.specs.Csc.{column}
use Rattle.order.specs.Order.{permuted, ipermuted}
use Rattle.order.proofs.Orderings.{length-permuted, length-ipermuted}
use Rattle.pivot.specs.Pivots.{◌⊖◌, ◌⊗◌, +0}
use Rattle.row.specs.Row.{scattered}
use Rattle.solve.specs.Solve.{lsolved, summed, dltsolved, solved}

-- the last of the numbers below i + 1 comes first
pub falling : (i : ℕ) → reverse (upto (suc i)) ≡ i ∷ reverse (upto i)
falling i = ap reverse (upto_more i) ∙ reverse-append (upto i) (i ∷ [])

module _ (lp li : List ℕ) (lx : List Float) (i : ℕ) (x : List Float) where
  module _ (n : ℕ) where
    pub lsolved_more : {rows : List ℕ} {vals y : List Float} → i < n → rows ≡ column lp li i → vals ≡ column lp lx i → y ≡ scattered rows vals (get_or x i nan) x →
        lsolved lp li lx (from (i + 1) (n - (i + 1))) y ≡ lsolved lp li lx (from i (n - i)) x
    unfolding lsolved from
    lsolved_more h r v t = let e : n - i ≡ suc (n - suc i) = omega arith in rw (add-one i, e, t, r, v)

    pub lsolved-done : n ≤ i → x ≡ lsolved lp li lx (from i (n - i)) x
    unfolding lsolved from
    lsolved-done h = let e : n - i ≡ 0 = omega arith in rw e

  module _ (dinv : List Float) where
    pub dltsolved_more : {j : ℕ} {rows : List ℕ} {vals : List Float} {s : Float} → 0 < i → j ≡ i - 1 → rows ≡ column lp li j → vals ≡ column lp lx j → s ≡ summed rows vals x +0 →
        dltsolved lp li lx dinv (reverse (upto j)) (set x j (get_or x j nan ⊗ get_or dinv j nan ⊖ s)) ≡ dltsolved lp li lx dinv (reverse (upto i)) x
    unfolding dltsolved
    dltsolved_more {j} h q r v t = let e : i ≡ suc j = omega arith in rw (e, falling j, t, r, v)

    pub dltsolved-done : i ≤ 0 → x ≡ dltsolved lp li lx dinv (reverse (upto i)) x
    unfolding dltsolved from
    dltsolved-done h = let e : i ≡ 0 = omega arith in rw e

-- the whole solve, on a part y of just the order's length, and on a right side as long
pub solved_is : (perm lp li : List ℕ) (lx dinv b y₀ : List Float) {y₁ y₂ y₃ x : List Float} → let n = length perm in
    length y₀ ≡ n → length y₁ ≡ n → length y₂ ≡ n → length b ≡ n → y₁ ≡ over (permuted nan perm b) y₀ → y₂ ≡ lsolved lp li lx (upto (length y₁)) y₁ →
    y₃ ≡ dltsolved lp li lx dinv (reverse (upto (length y₂))) y₂ → x ≡ over (ipermuted nan perm y₃) b → x ≡ solved n perm lp li lx dinv b
unfolding solved
solved_is perm lp li lx dinv b y₀ {y₁} {y₂} {y₃} h₀ h₁ h₂ k p l d i =
    let front : y₁ ≡ permuted nan perm b = p ∙ over-whole (permuted nan perm b) y₀ (omega (arith, length-permuted nan perm b)) in
    i
    ∙ over-whole (ipermuted nan perm y₃) b (omega (arith, length-ipermuted nan perm y₃))
    ∙ rw (d, h₂, l, h₁, front)
