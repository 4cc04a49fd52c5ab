-- `tree::sum` meets its contract: the library's sum is the total. Assumes nothing.
use Rattle.std.proofs.Common.{rules, ◌≡◌, refl, List, ℕ, sum}
use Rattle.std.proofs.lemmas.List.Recursion.{is_sum_by}
use Rattle.desk.specs.Lists.{total}
use Rattle.tree.proofs.sum.Goals as goal

totals : (xs : List ℕ) → total xs ≡ sum xs
unfolding total
totals = is_sum_by total (λ x. x) refl (λ _ _. refl)

pub returns : goal.returns
returns c = let e = totals c.args.lnz.now in rw e (search rules)
