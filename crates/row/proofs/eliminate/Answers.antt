-- `row::eliminate` meets its contract: what is lent to `scatter` is the column's rows and values so far. Assumes nothing.
use Prim.Native.Nat.{ℕ, ◌-◌, ◌≤◌}
use mathlib.Core.Path.{◌≡◌, refl, sym, ap, ◌∙◌}
use mathlib.Core.List.{List}
use native.Mathlib.Omega.{arith}
use lib.Ieee.{Float}
use lib.ListN.{length, set, take, drop}
use lib.Seq.{slice, length-slice}
use Rattle.csc.proofs.Columns.{part_slice}
use Rattle.pivot.specs.Pivots.{+0}
use Rattle.row.specs.Row.{scattered}
use Rattle.row.proofs.eliminate.Goals as goal

-- the part of a table from a place to another
parted : {A : Type 0} (xs : List A) {a e f t : ℕ} → a ≡ f → e ≡ t → take (e - a) (drop a xs) ≡ slice f t xs
parted xs {f = f} {t = t} p q = rw (p, q) (part_slice f t xs)

long : {A : Type 0} (xs : List A) {a e f t : ℕ} → a ≡ f → e ≡ t → t ≤ length xs → length (take (e - a) (drop a xs)) ≡ t - f
long xs {f = f} {t = t} p q h = ap length (parted xs p q) ∙ length-slice f t xs h

cleared_by : (li : List ℕ) (lx y : List Float) (v : Float) (c : ℕ) {a e f t : ℕ} → a ≡ f → e ≡ t → (z : List Float) →
    z ≡ scattered (take (e - a) (drop a li)) (take (e - a) (drop a lx)) v y → set z c +0 ≡ set (scattered (slice f t li) (slice f t lx) v y) c +0
cleared_by li lx y v c p q z h = rw (h, parted li p q, parted lx p q)

pub scatter-requires : goal.scatter-requires
scatter-requires c =
    let p = c.wide-first.ensures in
    let q = c.wide-last.ensures in record {
      rows_len = long c.args.li.now p q (omega (arith, c.requires.room_rows)) ∙ sym (long c.args.lx.now p q (omega (arith, c.requires.room_values)));
      by_index = λ j h. rw (parted c.args.li.now p q) (c.requires.listed j (rw (parted c.args.li.now p q) at h));
    }

pub returns : goal.returns
returns c =
    let p = c.wide-first.ensures in
    let q = c.wide-last.ensures in
    record {
      diagonal = refl;
      cleared = cleared_by c.args.li.now c.args.lx.now _ _ _ p q _ c.scatter.ensures;
      row = rw q;
      value = rw q;
      moved = refl;
      unmarked = refl;
    }
