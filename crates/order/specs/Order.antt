-- Document 01, pieces 1 and 2: an ordering, its inverse, and the two permutations. Assumes nothing.
use Rattle.std.specs.Prelude.{ℕ, suc, Bool, cond, List, [], ◌∷◌, map, eqb, length, get_or}
use Rattle.desk.specs.Lists.{upto, all, tally}

-- "perm[new] = old"; 9 where the "ordering isn't each of 0..n-1 once"
unfoldable pub is_ordering : List ℕ → Bool
is_ordering perm = all (λ v. eqb (tally v perm) 1) (upto (length perm))

-- the place at which v first stands
unfoldable pub place_of : ℕ → List ℕ → ℕ
place_of v [] = 0
place_of v (x ∷ xs) = cond (eqb x v) 0 (suc (place_of v xs))

-- "inverse, iperm[perm[i]] = i"
unfoldable pub inverse : List ℕ → List ℕ
inverse perm = map (λ v. place_of v perm) (upto (length perm))

-- "x[i] = b[p[i]]" (d is what stands past the end of b, which no ordering reaches)
unfoldable pub permuted : {A : Type 0} → A → List ℕ → List A → List A
permuted d p b = map (λ i. get_or b i d) p

-- ", and back"
unfoldable pub ipermuted : {A : Type 0} → A → List ℕ → List A → List A
ipermuted d p b = permuted d (inverse p) b
