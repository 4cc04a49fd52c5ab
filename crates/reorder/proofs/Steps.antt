-- Laws of the steps: counts that advance, places that are taken, tables that are written, one list of keys after another. Assumes nothing.
use Prim.Native.Nat.{ℕ, suc, ◌+◌, ◌<◌, ◌≤◌}
use mathlib.Core.Path.{◌≡◌, refl, sym, ap, ◌∙◌}
use mathlib.Core.List.{List, [], ◌∷◌, ◌++◌}
use native.Mathlib.Decide.{ℕ_discrete}
use native.Mathlib.Omega.{arith}
use lib.ListN.{length, get_or, set, length-set}
use lib.Seq.{get_or-set_same, get_or-set_other}
use Rattle.desk.specs.Lists.{tally}
use Rattle.desk.proofs.Tally.{tally-none, tally-here, tally-past, tally_append}
use Rattle.reorder.specs.Reorder.{places}
use Rattle.reorder.specs.Steps.{advanced, placed, Room}

-- next after one key
abbrev pub bump : List ℕ → ℕ → List ℕ
bump next k = set next k (get_or next k 0 + 1)

bump_here : (next ks : List ℕ) (c : ℕ) → c < length next → get_or (bump next c) c 0 + tally c ks ≡ get_or next c 0 + tally c (c ∷ ks)
bump_here next ks c h = omega (arith, get_or-set_same next c (get_or next c 0 + 1) 0 h, tally-here c ks)

-- what a column has taken and what it still has to take are as many as before
pub bump_kept : (next ks : List ℕ) (k c : ℕ) → c < length next → get_or (bump next k) c 0 + tally c ks ≡ get_or next c 0 + tally c (k ∷ ks)
bump_kept next ks k c h =
    elim (ℕ_discrete k c) [
      | yes e ↦ rw e (bump_here next ks c h)
      | no ne ↦ omega (arith, get_or-set_other next k c (get_or next k 0 + 1) 0 (λ e. ne (sym e)), tally-past c k ks ne)
    ]

pub bump_grows : (next : List ℕ) (k c : ℕ) → c < length next → get_or next c 0 ≤ get_or (bump next k) c 0
bump_grows next k c h = omega (arith, bump_kept next [] k c h, tally-none c)

pub advanced-at : (ks next : List ℕ) (c : ℕ) → c < length next → get_or (advanced ks next) c 0 ≡ get_or next c 0 + tally c ks
unfolding advanced
advanced-at [] next c h = omega (arith, tally-none c)
advanced-at (k ∷ ks) next c h = advanced-at ks (bump next k) c (rw length-set h) ∙ bump_kept next ks k c h

pub length-advanced : (ks next : List ℕ) → length (advanced ks next) ≡ length next
unfolding advanced
length-advanced [] next = refl
length-advanced (k ∷ ks) next = length-advanced ks (bump next k) ∙ length-set next k (get_or next k 0 + 1)

pub advanced_append : (ls ks next : List ℕ) → advanced (ls ++ ks) next ≡ advanced ks (advanced ls next)
unfolding advanced
advanced_append [] ks next = refl
advanced_append (a ∷ ls) ks next = advanced_append ls ks (bump next a)

pub length-places : (ks next : List ℕ) → length (places next ks) ≡ length ks
unfolding places
length-places [] next = refl
length-places (k ∷ ks) next = ap suc (length-places ks (bump next k))

pub places_append : (ls ks next : List ℕ) → places next (ls ++ ks) ≡ places next ls ++ places (advanced ls next) ks
unfolding places advanced
places_append [] ks next = refl
places_append (a ∷ ls) ks next = ap (λ (l : List ℕ). get_or next a 0 ∷ l) (places_append ls ks (bump next a))

module _ {A : Type 0} where
  pub length-placed : (ps : List ℕ) (xs out : List A) → length (placed ps xs out) ≡ length out
  unfolding placed
  length-placed [] xs out = refl
  length-placed (p ∷ ps) [] out = refl
  length-placed (p ∷ ps) (x ∷ xs) out = length-placed ps xs (set out p x) ∙ length-set out p x

  pub placed_append : (ps qs : List ℕ) (xs ys out : List A) → length ps ≡ length xs → placed (ps ++ qs) (xs ++ ys) out ≡ placed qs ys (placed ps xs out)
  unfolding placed
  placed_append [] qs [] ys out e = refl
  placed_append [] qs (x ∷ xs) ys out e = absurd (omega arith)
  placed_append (p ∷ ps) qs [] ys out e = absurd (omega arith)
  placed_append (p ∷ ps) qs (x ∷ xs) ys out e = placed_append ps qs xs ys (set out p x) (omega arith)

-- room for all is room for the first, and then for the rest
module _ (n m : ℕ) (ls ks next : List ℕ) (room : Room n m next (ls ++ ks)) where
  pub room-first : Room n m next ls
  room-first k h = omega (arith, room k h, tally_append k ls ks)

  pub room_rest : n ≤ length next → Room n m (advanced ls next) ks
  room_rest l k h = omega (arith, room k h, tally_append k ls ks, advanced-at ls next k (omega arith))
