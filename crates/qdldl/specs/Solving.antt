-- Document 01: solve and the three edits. Assumes nothing.
use Rattle.std.specs.Prelude.{ℕ, ◌+◌, Bool, not, ◌||◌, List, [], Ok, leb, ℤ, Float, length}
use Rattle.desk.specs.Lists.{any, isnt, short}
use Rattle.desk.specs.Desk.{Line, ◌⇒◌⨾◌, first, bad_size_later}
use Rattle.desk.specs.declared.Refusal.TheVariants.{NotReady, BadSize, BadLength, InvalidPermutation, Spoiled, BadIndex}
use Rattle.order.specs.Order.{is_ordering}
use Rattle.solve.specs.Solve.{solved, spoiled_l}
use Rattle.edit.specs.Edit.{updated, scaled, offset}
use Rattle.qdldl.specs.declared.Status.{Status}
use Rattle.qdldl.specs.Calls.{Outcome, outcome, settled, is_empty, is_numeric}

-- the ordering, L and Dinv; the right side, which the solution replaces; scratch of bytes and f64
pub record SolveLent : Type 0 where
  pub perm : List ℕ
  pub lp : List ℕ
  pub li : List ℕ
  pub lx : List Float
  pub dinv : List Float
  pub b : List Float
  pub bwork : List ℕ
  pub fwork : List Float

-- 4: "ordering or right side not n, .. another table that is only read not its exact length .., or .. scratch too short";
-- "L's pointers by 4, and the lengths of its rows and values by 11 alone"
unfoldable pub bad_solve_lengths : ℕ → SolveLent → Bool
bad_solve_lengths n l =
    isnt n l.perm || isnt (n + 1) l.lp || isnt n l.dinv || isnt n l.b || short n l.bwork || short n l.fwork

-- "solve 1, 3, 4, 9, 11"
unfoldable pub solve_refusals : Status → SolveLent → List Line
solve_refusals s l =
    not (is_numeric s.phase) ⇒ NotReady ⨾
    bad_size_later s.n s.m ⇒ BadSize ⨾
    bad_solve_lengths s.n l ⇒ BadLength ⨾
    not (is_ordering l.perm) ⇒ InvalidPermutation ⨾
    spoiled_l s.n l.lp l.li l.lx ⇒ Spoiled ⨾
    []

unfoldable pub solve : Status → SolveLent → Outcome (List Float)
solve s l =
    settled (first (solve_refusals s l)) s l.b
    (outcome (Ok s) (solved s.n l.perm l.lp l.li l.lx l.dinv l.b))

-- "edits 1, 3, 4, 11, 12"; 4: "an edit's lists unequal or its permuted values not m, .. m for the map"; 11: "a map entry is m or
-- more"; 12: "an edit index is m or more"
unfoldable pub edit_refusals : {A : Type 0} → Status → List ℕ → List Float → List ℕ → List A → List Line
edit_refusals s map vals indices args =
    is_empty s.phase ⇒ NotReady ⨾
    bad_size_later s.n s.m ⇒ BadSize ⨾
    isnt (length indices) args || isnt s.m vals || isnt s.m map ⇒ BadLength ⨾
    any (leb s.m) map ⇒ Spoiled ⨾
    any (leb s.m) indices ⇒ BadIndex ⨾
    []

-- "Status stays"
unfoldable pub update_values : Status → List ℕ → List ℕ → List Float → List Float → Outcome (List Float)
update_values s map indices values vals =
    settled (first (edit_refusals s map vals indices values)) s vals (outcome (Ok s) (updated map indices values vals))

unfoldable pub scale_values : Status → List ℕ → List ℕ → Float → List Float → Outcome (List Float)
scale_values s map indices scale vals =
    settled (first (edit_refusals s map vals indices indices)) s vals (outcome (Ok s) (scaled map indices scale vals))

-- "(not in offset edits)": any sign is taken
unfoldable pub offset_values : Status → List ℕ → List ℕ → Float → List ℤ → List Float → Outcome (List Float)
offset_values s map indices off signs vals =
    settled (first (edit_refusals s map vals indices signs)) s vals (outcome (Ok s) (offset map indices off signs vals))
