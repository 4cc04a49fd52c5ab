-- What the kernels of the edits ask. Assumes nothing.
use Rattle.std.specs.Prelude.{ℕ, ◌<◌, List, Float, length, get_or}

-- each index is a place of the map, and each entry of the map a place of the values
pub record Editable (map indices : List ℕ) (vals : List Float) : Type 0 where
  pub indexed : (k : ℕ) → k < length indices → get_or indices k 0 < length map
  pub mapped : (i : ℕ) → i < length map → get_or map i 0 < length vals
