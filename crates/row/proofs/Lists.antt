-- The columns of row k one after the other, where only their rows are listed: L's rows, the free places and the marks. Assumes nothing.
use Prim.Native.Nat.{ℕ, ◌+◌, ◌-◌, ◌^◌, ◌<◌}
use mathlib.Core.Path.{◌≡◌, refl, sym, ap, ◌∙◌}
use mathlib.Core.Bool.{Bool, true}
use mathlib.Core.List.{List, [], ◌∷◌}
use native.Mathlib.Omega.{arith}
use lib.ListN.{length, get_or, set, take, drop, length-set, length-replicate}
use Rattle.std.proofs.lemmas.List.{take_rest}
use Rattle.tree.specs.Strike.{joined, later, parents, pointers_of_l}
use Rattle.pivot.specs.Pivots.{+0}
use Rattle.row.specs.Laid.{laid}
use Rattle.row.specs.Kernels.{given, Reachable, Reached, Listing, Listable, RowListed}
use Rattle.row.proofs.Members.{in_here}
use Rattle.row.proofs.Paths.{table_up}
use Rattle.row.proofs.Order.{climb-below, climb-joined, climb_rest, climb_apart, visited_climb}
use Rattle.row.proofs.Shape.{shape_sized, shape-lists, shape_plain, shape_step, given-start, shape-start}
use Rattle.row.proofs.OfL.{place_for, store}
use Rattle.row.proofs.Eliminates.{mark_less, mark-none, free_as, free_more, free-next}

-- the next column
module _ (g : ℕ → ℕ → Bool) (n k : ℕ) (old : List ℕ) (c : ℕ) (rest li next marks : List ℕ) (x : Listing g n k old (c ∷ rest) li next marks) where
  low : c < k
  low = climb-below x.climb c (in_here c rest)

  joins : joined g c c k ≡ true
  joins = climb-joined x.climb c (in_here c rest)

  ends : get_or next c 0 ≡ get_or (pointers_of_l n g) c 0 + length (later k g c)
  ends = rw (in_here c rest) at (x.listed.free.place c (omega (arith, low, x.below)))

  -- it is inside the tables, and so is its free place, and both fit
  pub list_column : (c < length next) × (c < length marks) × (c < 2 ^ 32)
  list_column = (omega (arith, low, x.below, x.listed.free.places), omega (arith, low, x.below, x.size), omega (arith, low, x.below, x.small))

  pub list_place : (get_or next c 0 < length li) × (get_or next c 0 + 1 < 2 ^ 32)
  list_place =
      let room = place_for n g c k low x.below joins in
      (omega (arith, room, ends, x.listed.room), omega (arith, room, ends, x.listed.free.fits))

  pub list_more : Listing g n k old rest (set li (get_or next c 0) k) (set next c (get_or next c 0 + 1)) (set marks c 0)
  list_more =
      let s = shape_plain g n (given (c ∷ rest) k) +0 in
      let p = get_or next c 0 in
      record {
        small = x.small;
        below = x.below;
        climb = climb_rest x.climb;
        listed = record {
          free = free_more x.below x.climb next (set next c (p + 1)) x.listed.free refl;
          room = rw (length-set li p k) x.listed.room;
          rows_laid =
              rw (x.listed.rows_laid, ends)
              (sym (store (shape_sized s) old c k k low x.below joins (rw (in_here c rest)))
              ∙ ap (λ (cols : List (List ℕ)). laid (pointers_of_l n g) cols old) (shape-lists (shape_step x.below x.climb _ _ +0 s)));
        };
        marked = mark_less c rest marks x.marked (climb_apart x.climb) list_column.1;
        size = length-set marks c 0 ∙ x.size;
      }

-- after the last
pub list_done : (g : ℕ → ℕ → Bool) (n k : ℕ) (old li next marks : List ℕ) → Listing g n k old [] li next marks → RowListed g n k old li next marks
list_done g n k old li next marks x = record {
  listed = record { free = free-next x.listed.free; room = x.listed.room; rows_laid = x.listed.rows_laid };
  unmarked = mark-none n marks x.size x.marked;
}

-- before the first
module _ (g : ℕ → ℕ → Bool) (old : List ℕ) (k : ℕ) (rows etree li next marks order : List ℕ) (b : Listable g old k rows etree li next marks order) where
  pub list_reachable : Reachable g k rows etree marks order
  list_reachable = record { small = b.small; below = b.below; tree = b.tree; column = b.column; clear = b.unmarked }

  module _ (marks' order' : List ℕ) (top : ℕ) (r : Reached k rows etree marks' order' top) (sm : length marks' ≡ length marks) where
    -- as many marks as unknowns
    pub list_many : length marks' ≡ length order
    list_many = sm ∙ ap length b.unmarked ∙ length-replicate (length order) 0

    pub list_start : Listing g (length marks') k old (take (length order' - top) (drop top order')) li next marks'
    list_start =
        let n = length order in
        let par = parents n g in
        let P = table_up g n in
        let first = shape-start g n par P k b.below rows b.column (shape_plain g n (λ c. k) +0) in
        rw (take_rest order' top, list_many, r.ordered, b.tree) (record {
          small = b.small;
          below = b.below;
          climb = visited_climb g n par P k b.below rows b.column;
          listed = record {
            free = free_as (λ c _. given-start g n par P k b.below rows b.column c) b.listed.free;
            room = b.listed.room;
            rows_laid = b.listed.rows_laid ∙ ap (λ (cols : List (List ℕ)). laid (pointers_of_l n g) cols old) (shape-lists first);
          };
          marked = rw (← b.tree) r.marked;
          size = list_many;
        })

    pub list_row_done : (li' next' marks'' : List ℕ) → RowListed g (length marks') k old li' next' marks'' → RowListed g (length order) k old li' next' marks''
    list_row_done li' next' marks'' = rw list_many (λ h. h)
