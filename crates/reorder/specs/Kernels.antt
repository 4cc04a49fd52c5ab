-- What `permute_symmetric` asks and leaves. Assumes nothing.
use Rattle.std.specs.Prelude.{ℕ, ◌+◌, ◌^◌, ◌<◌, ◌≤◌, ◌≡◌, false, List, length, get_or}
use Rattle.desk.specs.Lists.{over}
use Rattle.csc.specs.Csc.{Csc, malformed}
use Rattle.reorder.specs.Reorder.{reordered, map_of}

-- what `permute_symmetric` asks: a matrix that is not malformed, an inverse ordering, and room
pub record Reorderable (iperm : List ℕ) (A P : Csc) (map next : List ℕ) : Type 0 where
  pub formed : malformed (length iperm) A.colptr A.rowval ≡ false
  pub pointers : length A.colptr ≡ length iperm + 1
  pub values : length A.nzval ≡ length A.rowval
  pub small : length A.rowval < 2 ^ 32
  pub inverse : (k : ℕ) → k < length iperm → get_or iperm k 0 < length iperm
  pub room_pointers : length iperm + 1 ≤ length P.colptr
  pub room_rows : length A.rowval ≤ length P.rowval
  pub room_values : length A.rowval ≤ length P.nzval
  pub room_map : length A.rowval ≤ length map
  pub room_next : length iperm ≤ length next

-- what it leaves: the reordered triangle and its map over the tables lent
pub record Reordered (iperm : List ℕ) (A P₀ P : Csc) (map₀ map : List ℕ) : Type 0 where
  pub colptr : P.colptr ≡ over (reordered (length iperm) iperm A).colptr P₀.colptr
  pub rowval : P.rowval ≡ over (reordered (length iperm) iperm A).rowval P₀.rowval
  pub nzval : P.nzval ≡ over (reordered (length iperm) iperm A).nzval P₀.nzval
  pub places : map ≡ over (map_of (length iperm) iperm A) map₀
