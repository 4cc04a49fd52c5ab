-- The tests of the desk give what the kernels of the edits ask. Assumes nothing.
use Prim.Native.Nat.{ℕ, ◌<◌}
use mathlib.Core.Bool.{false}
use mathlib.Core.Path.{◌≡◌}
use mathlib.Core.List.{List}
use borrow.Author.Tests.{leb-false}
use lib.Dec.{leb}
use lib.Ieee.{Float}
use lib.ListN.{length, get_or}
use Rattle.desk.specs.Lists.{any}
use Rattle.desk.proofs.Any.{none-at}
use Rattle.edit.specs.Kernels.{Editable}

-- a list that does not reach m is below m at each of its places
below : (m : ℕ) (l : List ℕ) → any (leb m) l ≡ false → (k : ℕ) → k < length l → get_or l k 0 < m
below m l e k h = leb-false _ _ (none-at (leb m) 0 l e k h)

pub editable : (m : ℕ) (map indices : List ℕ) (vals : List Float) → any (leb m) map ≡ false → any (leb m) indices ≡ false →
    length map ≡ m → length vals ≡ m → Editable map indices vals
editable m map indices vals a b p q = record { indexed = rw p (below m indices b); mapped = rw q (below m map a) }
