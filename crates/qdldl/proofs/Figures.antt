-- The figures of document 01 that are marked [P]: the definitions give what the paper prints. Assumes nothing.
use mathlib.Core.Path.{◌≡◌, refl}
use mathlib.Core.List.{map}
use Rattle.desk.specs.Lists.{from, join_all, tally, sums, total, over}
use Rattle.desk.specs.Desk.{first}
use Rattle.csc.specs.Csc.{column, fall, bad_pointers, malformed, not_upper, empty_column, rises, unsorted_column}
use Rattle.order.specs.Order.{is_ordering, place_of, inverse, permuted}
use Rattle.reorder.specs.Reorder.{per_entry, in_column, gathered, starts, places, reordered, map_of}
use Rattle.tree.specs.Strike.{entry, joined, later, parents, counts, rows_of_l, pointers_of_l}
use Rattle.qdldl.specs.Calls.{settled}
use Rattle.analysis.specs.Analysis.{bad_lengths, analysis_refusals, analysed_tables}
use Rattle.qdldl.specs.Analysing.{analysis}
use Rattle.qdldl.specs.Figures.{figures}

pub figures_hold : map (λ f. f.given) figures ≡ map (λ f. f.printed) figures
unfolding from join_all tally sums total over first column fall bad_pointers malformed not_upper empty_column rises unsorted_column is_ordering place_of inverse permuted per_entry in_column gathered starts places reordered map_of entry joined later parents counts rows_of_l pointers_of_l settled bad_lengths analysis_refusals analysed_tables analysis figures
figures_hold = refl
