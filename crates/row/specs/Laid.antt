-- How L's columns lie in its tables. Assumes nothing.
use Rattle.std.specs.Prelude.{ℕ, List, [], ◌∷◌}
use Rattle.std.proofs.lemmas.List.Edits.{sets}

-- each column's list at its pointer, all other places kept
unfoldable pub laid : {A : Type 0} → List ℕ → List (List A) → List A → List A
laid [] cols old = old
laid (p ∷ ps) [] old = old
laid (p ∷ ps) (col ∷ cols) old = laid ps cols (sets old p col)
