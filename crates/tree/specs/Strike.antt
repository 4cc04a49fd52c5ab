-- Demand 3 and document 01, piece 4: striking the unknowns out, one by one, in order, with no tree; parents, counts and the
-- rows of L's columns by it. Assumes nothing.
use Rattle.std.specs.Prelude.{ℕ, zero, suc, ◌-◌, min, max, Bool, not, ◌&&◌, ◌||◌, List, [], ◌∷◌, map, ltb, eqb, length}
use Rattle.desk.specs.Lists.{from, upto, any, keep, join_all, sums}
use Rattle.csc.specs.Csc.{column}

-- two different unknowns are joined at the start where the triangle has an entry for them
unfoldable pub entry : List ℕ → List ℕ → ℕ → ℕ → Bool
entry ptr rows a b = not (eqb a b) && any (eqb (min a b)) (column ptr rows (max a b))

-- "when one goes, every two later ones that it touches become joined": a and b are joined once the unknowns below t have gone
unfoldable pub joined : (ℕ → ℕ → Bool) → ℕ → ℕ → ℕ → Bool
joined g zero a b = g a b
joined g (suc t) a b = joined g t a b || (ltb t a && ltb t b && (not (eqb a b) && (joined g t t a && joined g t t b)))

-- "column i of L lists row k exactly when k is later than i and joined to it when i goes, once each, rows rising"
unfoldable pub later : ℕ → (ℕ → ℕ → Bool) → ℕ → List ℕ
later n g i = keep (λ k. joined g i i k) (from (suc i) (n - suc i))

-- "4,294,967,295 stands for none"
abbrev pub none : ℕ
none = 4294967295

abbrev pub least_or : ℕ → List ℕ → ℕ
least_or d [] = d
least_or d (x ∷ xs) = x

-- "The parent of i is the least later unknown joined to i when i goes"
unfoldable pub parents : ℕ → (ℕ → ℕ → Bool) → List ℕ
parents n g = map (λ i. least_or none (later n g i)) (upto n)

-- "The tree's column counts are those of this plain striking out"
unfoldable pub counts : ℕ → (ℕ → ℕ → Bool) → List ℕ
counts n g = map (λ i. length (later n g i)) (upto n)

-- the rows of L, column after column, and L's pointers
unfoldable pub rows_of_l : ℕ → (ℕ → ℕ → Bool) → List ℕ
rows_of_l n g = join_all (map (later n g) (upto n))

unfoldable pub pointers_of_l : ℕ → (ℕ → ℕ → Bool) → List ℕ
pointers_of_l n g = sums 0 (counts n g)
