-- What `etree` asks and leaves. Assumes nothing.
use Rattle.std.specs.Prelude.{ℕ, ◌+◌, ◌^◌, ◌<◌, ◌≤◌, ◌≡◌, false, List, length}
use Rattle.desk.specs.Lists.{over}
use Rattle.csc.specs.Csc.{bad_pointers, not_upper}
use Rattle.tree.specs.Strike.{entry, parents, counts}

-- an upper triangle of order n, and room
pub record Upper (n : ℕ) (colptr rowval work lnz etree : List ℕ) : Type 0 where
  pub small : n < 2 ^ 32
  pub pointers : length colptr ≡ n + 1
  pub steady : bad_pointers (length rowval) colptr ≡ false
  pub upper : not_upper n colptr rowval ≡ false
  pub room_work : n ≤ length work
  pub room_counts : n ≤ length lnz
  pub room_parents : n ≤ length etree

-- "parents and counts" of striking out, over the tables lent
pub record Treed (n : ℕ) (colptr rowval lnz₀ lnz etree₀ etree : List ℕ) : Type 0 where
  pub struck_counts : lnz ≡ over (counts n (entry colptr rowval)) lnz₀
  pub struck_parents : etree ≡ over (parents n (entry colptr rowval)) etree₀
