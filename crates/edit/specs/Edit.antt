-- Document 01, piece 7: the three edits of the permuted values. Assumes nothing.
use Rattle.std.specs.Prelude.{ℕ, zero, suc, List, [], ◌∷◌, ℤ, pos, negsuc, Float, get_or, set}
use Rattle.std.specs.Float.{nan}
use Rattle.pivot.specs.Pivots.{◌⊕◌, ◌⊖◌, ◌⊗◌}

-- "through the map, in list order, so a repeated index counts each time": f of what the list says and the value that stands there
unfoldable pub edited : {A : Type 0} → (A → Float → Float) → List ℕ → List ℕ → List A → List Float → List Float
edited f map [] args vals = vals
edited f map (i ∷ indices) [] vals = vals
edited f map (i ∷ indices) (a ∷ args) vals =
    let p = get_or map i 0 in edited f map indices args (set vals p (f a (get_or vals p nan)))

-- `update_values`
unfoldable pub updated : List ℕ → List ℕ → List Float → List Float → List Float
updated map indices values vals = edited (λ v old. v) map indices values vals

-- `scale_values`
unfoldable pub scaled : List ℕ → List ℕ → Float → List Float → List Float
scaled map indices scale vals = edited (λ i old. old ⊗ scale) map indices indices vals

-- "An offset sign 1 to 127 adds, -128 to -1 subtracts, 0 does nothing."
abbrev pub offset_by : Float → ℤ → Float → Float
offset_by offset (pos zero) old = old
offset_by offset (pos (suc k)) old = old ⊕ offset
offset_by offset (negsuc k) old = old ⊖ offset

-- `offset_values`
unfoldable pub offset : List ℕ → List ℕ → Float → List ℤ → List Float → List Float
offset map indices off signs vals = edited (offset_by off) map indices signs vals
