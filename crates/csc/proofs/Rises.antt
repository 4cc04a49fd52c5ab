-- What is known of each number and the next settles whether a list rises. Assumes nothing.
use Rattle.std.specs.List.{IsAllAdjacentAnswer}
use Prim.Native.Nat.{ℕ, zero, suc, ◌<◌}
use mathlib.Core.Bool.{Bool, true, false, and-false}
use mathlib.Core.List.{List, [], ◌∷◌}
use mathlib.Core.Path.{◌≡◌, refl}
use native.Mathlib.Numerals.{add-one}
use native.Mathlib.Omega.{arith}
use lib.Dec.{ltb}
use lib.ListN.{length, get_or}
use Rattle.csc.specs.Csc.{rises}

rises_each : (l : List ℕ) → ((k : ℕ) → suc k < length l → true ≡ ltb (get_or l k 0) (get_or l (suc k) 0)) → true ≡ rises l
unfolding rises
rises_each [] h = refl
rises_each (x ∷ []) h = refl
rises_each (x ∷ (y ∷ l)) h = rw (← h 0 (omega arith)) (rises_each (y ∷ l) (λ k i. h (suc k) (omega arith)))

rises_not : (l : List ℕ) (k : ℕ) → suc k < length l → false ≡ ltb (get_or l k 0) (get_or l (suc k) 0) → false ≡ rises l
unfolding rises
rises_not [] k i e = absurd (omega arith)
rises_not (x ∷ []) k i e = absurd (omega arith)
rises_not (x ∷ (y ∷ l)) zero i e = rw (← e)
rises_not (x ∷ (y ∷ l)) (suc k) i e = rw (← rises_not (y ∷ l) k (omega arith) e, and-false)

-- the library's answer of a list that is sorted by `<`
pub rises_answer : (l : List ℕ) (r : Bool) → IsAllAdjacentAnswer (λ x y b. b ≡ ltb x y) l r → r ≡ rises l
rises_answer l true h = rises_each l (λ k i. rw add-one at (h k 0 (rw add-one i)))
rises_answer l false (k, i, e) = rises_not l k (rw add-one at i) (rw add-one at (e 0))
