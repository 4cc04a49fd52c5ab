use mathlib.Core.Path.{◌≡◌, refl, ap, ◌∙◌}
use native.Mathlib.Omega.{arith}
use lib.ListN.{get_or, set, length-map}
use Rattle.reorder.specs.Reorder.{new_col, new_row}
use Rattle.reorder.proofs.Turns.{left_all, left_turn, left_done, key_next, key_room, Tables, placing_all, placing_turn, placing_done}
use Rattle.reorder.proofs.fill_column.Goals as goal
use Rattle.reorder.proofs.fill_column.Goals.{After-min, After-wide-k, At-loop-j}

abbrev tables : At-loop-j → Tables
tables at = record { next = at.loop-j.next; pr = at.loop-j.pr; pv = at.loop-j.pv; map = at.loop-j.map }

-- the new column of the row that a turn names
key : (c : After-wide-k) → c.wide-k.result ≡ new_col c.args.iperm.now c.args.c (get_or c.args.rows.now c.loop-j.j 0)
key c = c.wide-k.ensures ∙ c.max.ensures ∙ ap (new_col c.args.iperm.now c.args.c) c.wide-r.ensures

new-row : (c : After-min) → c.min.result ≡ new_row c.args.iperm.now c.args.c (get_or c.args.rows.now c.loop-j.j 0)
new-row c =
    c.min.ensures ∙ ap (new_row c.args.iperm.now c.args.c) c.wide-r.ensures

pub loop-j-init : goal.loop-j-init
loop-j-init c = (left_all c.requires.column_ready.room, placing_all _ _ _ _ _ (length-map c.args.rows.now _))

pub place_entry-place-requires : goal.place_entry-place-requires
place_entry-place-requires c =
    let fits = key_room c.requires.column_ready _ _ _ c.loop-j-test.true (key (goal.at.place_entry-place-requires c).After-wide-k) c.loop-j.invariant.0 in record {
      k_in_bounds = key_next c.requires.column_ready _ _ _ c.loop-j-test.true (key (goal.at.place_entry-place-requires c).After-wide-k) c.loop-j.invariant.0;
      k_bound = omega (arith, fits, c.loop-j.invariant.1.long_rows, c.loop-j.invariant.1.long_values);
    }

pub loop-j-preserved : goal.loop-j-preserved
loop-j-preserved c =
    let args = c.args in
    let done = c.place_entry-place.ensures in
    let T' : Tables =
    record {
      next = c.place_entry-place.new.next;
      pr = c.place_entry-place.new.pr;
      pv = c.place_entry-place.new.pv;
      map = set c.loop-j.map c.loop-j.j c.place_entry-place.result;
    } in (
      left_turn c.requires.column_ready _ _ _ c.loop-j-test.true (key (goal.at.loop-j-preserved c).After-wide-k) c.loop-j.invariant.0 _ done.moved,
      placing_turn args.c c.loop-j.j c.wide-k.result _ _ _ args.rows.now args.iperm.now args.vals.now (tables (goal.at.loop-j-preserved c).At-loop-j) T' c.loop-j-test.true c.requires.vals_len
          (omega (arith, c.requires.map_len, c.loop-j.invariant.1.long_map)) (key (goal.at.loop-j-preserved c).After-wide-k) (new-row (goal.at.loop-j-preserved c).After-min) refl done.answer done.moved done.rows done.values refl c.loop-j.invariant.1,
    )

pub returns : goal.returns
returns c =
    placing_done _ c.loop-j.j _ _ _ _ _ c.loop-j-test.false c.loop-j.invariant.1 (left_done _ _ c.loop-j.j _ _ _ _ _ c.loop-j-test.false c.loop-j.invariant.0)
