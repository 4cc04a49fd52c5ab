use Prim.Native.Nat.{ℕ, ◌<◌, ◌≤◌}
use mathlib.Core.Path.{◌≡◌, sym}
use mathlib.Core.Bool.{true}
use mathlib.Core.List.{List}
use native.Mathlib.Omega.{arith}
use borrow.Author.Count.{below_none, below_more}
use lib.ListN.{length, get_or}
use lib.Seq.{ext_get_or}
use Rattle.factor.specs.Factor.{same}
use Rattle.factor.proofs.Tested.{same_refl, same_apart}
use Rattle.factor.proofs.same.Goals as goal

agree : (a b : List ℕ) (i : ℕ) → length a ≡ length b → length a ≤ i → ((k : ℕ) → k < i → get_or a k 0 ≡ get_or b k 0) → true ≡ same a b
agree a b i e h all = rw (ext_get_or 0 a b e (λ k l. all k (omega arith))) (sym (same_refl b))

pub returns-then-a-b : goal.returns-then-a-b
returns-then-a-b c = same_apart length _ _ c.if-a-b.true

pub loop-i-init : goal.loop-i-init
loop-i-init c = below_none _

pub returns-then-a-i : goal.returns-then-a-i
returns-then-a-i c = same_apart (λ l. get_or l c.loop-i.i 0) _ _ c.if-a-i.true

pub loop-i-preserved : goal.loop-i-preserved
loop-i-preserved c = below_more _ _ c.loop-i.invariant c.if-a-i.false

pub returns : goal.returns
returns c = agree _ _ _ c.if-a-b.false c.loop-i-test.false c.loop-i.invariant
