-- `reorder::permute_symmetric` meets its contract: what each phase leaves is what the next asks, and the last leaves the reordered triangle.
-- Assumes nothing.
use Rattle.reorder.proofs.Phases.{countable, long₂, small, fillable, filled}
use Rattle.reorder.proofs.permute_symmetric.Goals as goal

pub count_entries-requires : goal.count_entries-requires
count_entries-requires c = countable c.requires _ c.fill.ensures

pub accumulate-requires : goal.accumulate-requires
accumulate-requires c =
    let R = c.requires in record {
      n_in_bounds = long₂ R _ c.fill.ensures _ c.count_entries.ensures;
      n_in_bounds_2 = R.room_pointers;
      by_index = small R _ c.fill.ensures _ c.count_entries.ensures;
    }

pub fill_entries-requires : goal.fill_entries-requires
fill_entries-requires c =
    let R = c.requires in record {
      entries_ready = fillable R _ c.fill.ensures _ c.count_entries.ensures _ _ c.accumulate.ensures c.copy_starts.ensures;
      nzval_len = R.values;
      rowval_in_bounds = R.room_map;
    }

pub returns : goal.returns
returns c =
    let R = c.requires in
    filled R _ c.fill.ensures _ c.count_entries.ensures _ _ c.accumulate.ensures c.copy_starts.ensures _ _ _ _ c.fill_entries.ensures
