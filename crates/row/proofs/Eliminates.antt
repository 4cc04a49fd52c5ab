-- The columns of row k one after the other: the code's row beside the definition's, with L's tables, the free places and the marks.
-- Assumes nothing.
use Prim.Native.Nat.{ℕ, suc, ◌+◌, ◌^◌, ◌<◌, ◌≤◌}
use mathlib.Core.Path.{◌≡◌, refl, sym, ap, ◌∙◌}
use mathlib.Core.Bool.{Bool}
use mathlib.Core.List.{List, [], ◌∷◌}
use native.Mathlib.Omega.{arith}
use native.Mathlib.Decide.{ℕ_discrete}
use borrow.Author.Tests.{ne_eqb}
use lib.Ieee.{Float, nan}
use lib.ListN.{length, get_or, set, take, drop, replicate, length-set, length-append, length-replicate, get_or-replicate}
use lib.Seq.{slice, get_or-set_same, get_or-set_other, get_or-take, ext_get_or}
use Rattle.desk.specs.Lists.{total}
use Rattle.tree.specs.Strike.{later, parents, counts, pointers_of_l}
use Rattle.pivot.specs.Pivots.{◌⊗◌}
use Rattle.row.specs.Row.{Row, visits, eliminate, eliminate_all, row_of}
use Rattle.row.specs.Kernels.{Out, up, Marked, given, Climb, grown, Free, Held, Eliminable, Eliminated, Setting, Ordered, Rowed}
use Rattle.row.proofs.Members.{in_here}
use Rattle.row.proofs.Paths.{table_up}
use Rattle.row.proofs.Order.{climb-below, climb_apart}
use Rattle.row.proofs.Shape.{given_other, given_more, given-start}
use Rattle.row.proofs.Along.{Along, SameRow, eliminate_clear, eliminate_clear_all, along_below, along_touched, along_start, along_step, along_all}
use Rattle.row.proofs.Laid.{length-laid}
use Rattle.row.proofs.OfL.{length-pointers}
use Rattle.row.proofs.Middle.{next_place, next_part_li, next_part_lx, next-li, next-lx}

-- a mark is cleared where its unknown leaves the list
pub mark_less : (c : ℕ) (rest marks : List ℕ) → Marked (c ∷ rest) marks → Out c rest → c < length marks → Marked rest (set marks c 0)
mark_less c rest marks m o h i l = elim (ℕ_discrete i c) [
  | yes e ↦ rw (e, get_or-set_same marks c 0 0 h, o)
  | no ne ↦ rw (get_or-set_other marks c i 0 0 ne) (m i (simp length-set at l) ∙ rw (ne_eqb i c ne))
]

-- with none left no mark is set
pub mark-none : (n : ℕ) (marks : List ℕ) → length marks ≡ n → Marked [] marks → marks ≡ replicate n 0
mark-none n marks e m =
    ext_get_or 0 marks (replicate n 0) (e ∙ sym (length-replicate n 0)) (λ i h.
    m i h ∙ (sym (get_or-replicate n i 0 0 (omega arith))))

-- a free place is where the column's rows end, whichever way that is said
pub free_as : {g : ℕ → ℕ → Bool} {n : ℕ} {up_to other : ℕ → ℕ} {next : List ℕ} → ((c : ℕ) → c < n → later (up_to c) g c ≡ later (other c) g c) →
    Free g n up_to next → Free g n other next
free_as {g} {n} e f = record {
  fits = f.fits;
  places = f.places;
  place = λ c h. f.place c h ∙ ap (λ (l : List ℕ). get_or (pointers_of_l n g) c 0 + length l) (e c h);
}

-- column c is given row k, and its next free place is one further on
pub free_more : {g : ℕ → ℕ → Bool} {n : ℕ} {par : ℕ → ℕ} {k : ℕ} (kn : k < n) {c : ℕ} {rest : List ℕ} (x : Climb g par k (c ∷ rest)) (next next' : List ℕ) →
    Free g n (given (c ∷ rest) k) next → next' ≡ set next c (get_or next c 0 + 1) → Free g n (given rest k) next'
free_more {g} {n} {k = k} kn {c} {rest} x next next' f e =
    let low : c < n = omega (arith, climb-below x c (in_here c rest)) in
    record {
      fits = f.fits;
      places = ap length e ∙ length-set next c (get_or next c 0 + 1) ∙ f.places;
      place = λ i h. elim (ℕ_discrete i c) [
        | yes q ↦ rw (q, e, get_or-set_same next c (get_or next c 0 + 1) 0 (omega (arith, f.places)), given_more kn x, length-append) (omega (arith, f.place c low))
        | no ne ↦ rw (e, get_or-set_other next c i (get_or next c 0 + 1) 0 ne, ← given_other c rest k i ne) (f.place i h)
      ];
    }

-- after the last column the next row starts from there
pub free-next : {g : ℕ → ℕ → Bool} {n k : ℕ} {next : List ℕ} → Free g n (given [] k) next → Free g n (λ c. suc k) next
free-next f = f

-- where `rest` is still to come
pub record Eliminating (s : Setting) (n k : ℕ) (dinv : List Float) (rest lp li next marks : List ℕ) (lx y : List Float) (d : Float) : Type 0 where
  pub w : Row
  pub z : Row
  pub along : Along s.g (up (parents n s.g)) n k rest w z
  pub left : eliminate_all k (take k dinv) rest w ≡ row_of n k (parents n s.g) (take k dinv) s.col_rows s.col_vals s.lists.rows s.lists.vals
  pub held : Held s.g n (given rest k) (grown s.lists z) lp li next lx
  pub marked : Marked rest marks
  pub size_marks : length marks ≡ n
  pub same_y : y ≡ z.y
  pub same_d : d ≡ z.d

module _ (s : Setting) (k top : ℕ) (d : Float) (order lp li next marks : List ℕ) (lx dinv y : List Float)
    (b : Ordered s k top d order lp li next marks lx dinv y) where
  pub eliminate-start : Eliminating s (length y) k dinv (drop top order) lp li next marks lx y d
  unfolding row_of
  eliminate-start =
      let n = length y in
      let par = parents n s.g in
      let cs = visits par k s.col_rows [] in
      let H = b.held in
      let a = along_start par (table_up s.g n) k b.below s.col_rows b.column s.col_vals s.lists.rows s.lists.vals H.shape in
      rw b.ordered (record {
        w = _;
        z = _;
        along = a;
        left = refl;
        held = record {
          pointers = H.pointers;
          free = free_as (λ c _. given-start s.g n par (table_up s.g n) k b.below s.col_rows b.column c) H.free;
          room_rows = H.room_rows;
          room_values = H.room_values;
          shape = a.shape;
          rows_laid = H.rows_laid;
          values_laid = H.values_laid;
        };
        marked = rw (← b.ordered) b.marked;
        size_marks = b.size_marks;
        same_y = b.entries;
        same_d = b.start;
      })

module _ (s : Setting) (n k : ℕ) (kn : k < n) (small : n < 2 ^ 32) (dinv : List Float) (enough : k ≤ length dinv) where
  -- the next column
  module _ (c : ℕ) (rest lp li next marks : List ℕ) (lx y : List Float) (d : Float) (size : length y ≡ n)
      (x : Eliminating s n k dinv (c ∷ rest) lp li next marks lx y d) where
    H : Held s.g n (given (c ∷ rest) k) (grown s.lists x.z) lp li next lx
    H = x.held

    low : c < k
    low = along_below x.along

    begins : get_or lp c 0 ≡ get_or (pointers_of_l n s.g) c 0
    begins = rw H.pointers

    ends : get_or next c 0 ≡ get_or (pointers_of_l n s.g) c 0 + length (later k s.g c)
    ends = rw (in_here c rest) at (H.free.place c (omega (arith, low)))

    room : get_or (pointers_of_l n s.g) c 0 + length (later k s.g c) < total (counts n s.g)
    room = next_place kn x.along

    part_li : slice (get_or lp c 0) (get_or next c 0) li ≡ get_or x.z.rows c []
    part_li = rw (begins, ends, H.rows_laid) (next_part_li kn x.along s.lists.li (omega (arith, H.room_rows, ap length H.rows_laid ∙ length-laid (pointers_of_l n s.g) x.z.rows s.lists.li)))

    part_lx : slice (get_or lp c 0) (get_or next c 0) lx ≡ get_or x.z.vals c []
    part_lx = rw (begins, ends, H.values_laid) (next_part_lx kn x.along s.lists.lx (omega (arith, H.room_values, ap length H.values_laid ∙ length-laid (pointers_of_l n s.g) x.z.vals s.lists.lx)))

    pub eliminable : Eliminable k c lp li next marks lx dinv y
    eliminable = record {
      number = omega arith;
      pointer = omega (arith, low, ap length H.pointers ∙ length-pointers n s.g);
      place = omega (arith, low, H.free.places);
      mark = omega (arith, low, x.size_marks);
      reciprocal = omega (arith, low);
      at = omega (arith, low);
      rising = omega (arith, begins, ends);
      fits = omega (arith, ends, room, H.free.fits);
      room_rows = omega (arith, ends, room, H.room_rows);
      room_values = omega (arith, ends, room, H.room_values);
      listed = rw (part_li, size) (λ q l. (along_touched (table_up s.g n) kn x.along q l).1);
    }

    module _ (li' next' marks' : List ℕ) (lx' y' : List Float) (r : Float) (e : Eliminated k c d lp li li' next next' marks marks' lx lx' dinv y y' r) where
      -- the column's number and reciprocal, as the definition has them
      number : get_or y c nan ≡ get_or x.z.y c nan
      number = rw x.same_y

      reciprocal : get_or (take k dinv) c nan ≡ get_or dinv c nan
      reciprocal = get_or-take k dinv c nan low

      a : Along s.g (up (parents n s.g)) n k rest (eliminate k (take k dinv) c x.w) (eliminate_clear k (take k dinv) c x.z)
      a = along_step (table_up s.g n) kn x.along (take k dinv)

      same-y : y' ≡ (eliminate_clear k (take k dinv) c x.z).y
      unfolding eliminate_clear eliminate
      same-y = e.cleared ∙ rw (part_li, part_lx, x.same_y)

      same-d : r ≡ (eliminate_clear k (take k dinv) c x.z).d
      unfolding eliminate_clear eliminate
      same-d = e.diagonal ∙ rw (reciprocal, x.same_y, x.same_d)

      pub eliminate_more : Eliminating s n k dinv rest lp li' next' marks' lx' y' r
      unfolding eliminate_all
      eliminate_more = record {
        w = eliminate k (take k dinv) c x.w;
        z = eliminate_clear k (take k dinv) c x.z;
        along = a;
        left = x.left;
        held = record {
          pointers = H.pointers;
          free = free_more kn x.along.climb next next' H.free e.moved;
          room_rows = omega (arith, H.room_rows, ap length e.row ∙ length-set li (get_or next c 0) k);
          room_values = omega (arith, H.room_values, ap length e.value ∙ length-set lx (get_or next c 0) (get_or y c nan ⊗ get_or dinv c nan));
          shape = a.shape;
          rows_laid = e.row ∙ rw (ends, H.rows_laid) (sym (next-li kn x.along (take k dinv) s.lists.li));
          values_laid = e.value ∙ rw (ends, H.values_laid, number, ← reciprocal) (sym (next-lx kn x.along (take k dinv) s.lists.lx));
        };
        marked = rw e.unmarked (mark_less c rest marks x.marked (climb_apart x.along.climb) (omega (arith, low, x.size_marks)));
        size_marks = ap length e.unmarked ∙ length-set marks c 0 ∙ x.size_marks;
        same_y = same-y;
        same_d = same-d;
      }

  -- after the last
  pub eliminate-done : (lp li next marks : List ℕ) (lx y : List Float) (d : Float) → Eliminating s n k dinv [] lp li next marks lx y d →
      Rowed s.g n k s.lists (row_of n k (parents n s.g) (take k dinv) s.col_rows s.col_vals s.lists.rows s.lists.vals) lp li next marks lx y d
  unfolding eliminate_all eliminate_clear_all
  eliminate-done lp li next marks lx y d x =
      let H = x.held in
      let same : SameRow s.g n k x.w x.z = along_all (table_up s.g n) kn (take k dinv) x.along in
      rw (← x.left) (record {
        diagonal = x.same_d ∙ same.d;
        held = record {
          pointers = H.pointers;
          free = free-next H.free;
          room_rows = H.room_rows;
          room_values = H.room_values;
          shape = same.shape;
          rows_laid = H.rows_laid ∙ rw same.rows;
          values_laid = H.values_laid ∙ rw same.vals;
        };
        unmarked = mark-none n marks x.size_marks x.marked;
        cleared = x.same_y ∙ same.y;
      })
