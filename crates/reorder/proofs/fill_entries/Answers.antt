use Prim.Native.Nat.{◌≤◌, ◌<◌, ◌-◌}
use mathlib.Core.Path.{◌≡◌}
use mathlib.Core.List.{List}
use native.Mathlib.Omega.{arith}
use lib.ListN.{length, take, drop}
use Rattle.reorder.specs.Steps.{room_of, ColumnReady}
use Rattle.reorder.proofs.Turns.{Tables}
use Rattle.reorder.proofs.Passes.{pass_all, pass_on, pass_done, column-ready, starts-below, ends_inside, long-lent, placing_begin, placing_pass, placing_end}
use Rattle.reorder.proofs.fill_entries.Goals as goal
use Rattle.reorder.proofs.fill_entries.Goals.{After-wide-last, At-loop-c}

abbrev tables : At-loop-c → Tables
tables at = record { next = at.loop-c.next; pr = at.loop-c.pr; pv = at.loop-c.pv; map = at.loop-c.map }

module _ (c : After-wide-last) where
  taken : c.loop-c.c < length c.args.iperm.now
  taken = c.loop-c-test.true

  below : c.wide-first.result ≤ c.wide-last.result
  below = starts-below c.requires.entries_ready c.loop-c.c taken _ c.rows-rows.ensures c.wide-first.ensures c.wide-last.ensures

  inside : c.wide-last.result ≤ length c.args.a.now.rowval.now
  inside = ends_inside c.requires.entries_ready c.loop-c.c taken _ c.rows-rows.ensures c.wide-first.ensures c.wide-last.ensures

  lent : {A : Type 0} (l : List A) → length c.args.a.now.rowval.now ≤ length l → length (take (c.wide-last.result - c.wide-first.result) (drop c.wide-first.result l)) ≡ length c.rows-rows.result.now
  lent = long-lent c.requires.entries_ready c.loop-c.c taken _ c.rows-rows.ensures c.wide-first.ensures c.wide-last.ensures

  ready : ColumnReady c.loop-c.c (room_of c.args.pr.now c.args.pv.now) c.rows-rows.result.now c.args.iperm.now c.loop-c.next
  ready = column-ready c.requires.entries_ready _ _ c.loop-c.invariant.0 taken _ c.rows-rows.ensures

pub loop-c-init : goal.loop-c-init
loop-c-init c = (pass_all c.requires.entries_ready, placing_begin c.requires.entries_ready c.args.a.now.nzval.now _)

pub slice_bounds-fill_column-count : goal.slice_bounds-fill_column-count
slice_bounds-fill_column-count c = below (goal.at.slice_bounds-fill_column-count c).After-wide-last

pub slice_bounds-fill_column-start : goal.slice_bounds-fill_column-start
slice_bounds-fill_column-start c = below (goal.at.slice_bounds-fill_column-start c).After-wide-last

pub slice_bounds-fill_column-end : goal.slice_bounds-fill_column-end
slice_bounds-fill_column-end c = omega (arith, inside (goal.at.slice_bounds-fill_column-end c).After-wide-last, c.requires.nzval_len)

pub slice_bounds-fill_column-count-in-loop-c : goal.slice_bounds-fill_column-count-in-loop-c
slice_bounds-fill_column-count-in-loop-c c = below (goal.at.slice_bounds-fill_column-count-in-loop-c c).After-wide-last

pub slice_bounds-fill_column-start-in-loop-c : goal.slice_bounds-fill_column-start-in-loop-c
slice_bounds-fill_column-start-in-loop-c c = below (goal.at.slice_bounds-fill_column-start-in-loop-c c).After-wide-last

pub fill_column-requires : goal.fill_column-requires
fill_column-requires c =
    record {
      column_ready = rw (c.loop-c.invariant.1.long_rows, c.loop-c.invariant.1.long_values) (ready (goal.at.fill_column-requires c).After-wide-last);
      vals_len = lent (goal.at.fill_column-requires c).After-wide-last _ (omega (arith, c.requires.nzval_len));
      map_len = lent (goal.at.fill_column-requires c).After-wide-last _ (omega (arith, c.requires.rowval_in_bounds, c.loop-c.invariant.1.long_map));
    }

pub loop-c-preserved : goal.loop-c-preserved
loop-c-preserved c =
    let last = c.fill_column.new in
    let done = c.fill_column.ensures in (
      pass_on c.requires.entries_ready _ _ c.loop-c.invariant.0 (taken (goal.at.loop-c-preserved c).After-wide-last) _ c.rows-rows.ensures last.next done.moved,
      placing_pass c.requires.entries_ready c.loop-c.c (taken (goal.at.loop-c-preserved c).After-wide-last) _ c.rows-rows.ensures c.wide-first.ensures c.wide-last.ensures c.args.a.now.nzval.now (tables (goal.at.loop-c-preserved c).At-loop-c) last.next last.pr last.map last.pv c.requires.nzval_len (omega (arith, c.requires.rowval_in_bounds, c.loop-c.invariant.1.long_map)) done c.loop-c.invariant.1,
    )

pub returns : goal.returns
returns c =
    placing_end c.requires.entries_ready c.args.a.now.nzval.now c.loop-c.c (tables (goal.at.returns c).At-loop-c) _ _ _ _ c.loop-c-test.false c.loop-c.invariant.1 (pass_done c.requires.entries_ready _ _ c.loop-c.invariant.0 c.loop-c-test.false)
