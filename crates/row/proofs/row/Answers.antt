-- `row::row` meets its contract, from those of its steps. Assumes nothing.
use mathlib.Core.Path.{ap, ◌∙◌}
use native.Mathlib.Omega.{arith}
use borrow.Author.Rules.{rules}
use lib.IntN.{ℤ, pos}
use lib.ListN.{get_or}
use mir.Syntax.{w8}
use mir.ValLaws.{to_z-of_z}
use Rattle.pivot.specs.Pivots.{pivot_of}
use Rattle.row.proofs.Rows.{in_pointers, rises, in_rows, in_values, row_rowable, row_stepped}
use Rattle.row.proofs.row.Goals as goal

pub entries-requires : goal.entries-requires
entries-requires c =
    let b = c.requires.1 in
    record {
      pointers = in_pointers _ _ _ _ _ _ _ _ _ _ _ _ _ _ b;
      rises = rises _ _ _ _ _ _ _ _ _ _ _ _ _ _ b;
      in_rows = in_rows _ _ _ _ _ _ _ _ _ _ _ _ _ _ b;
      in_values = in_values _ _ _ _ _ _ _ _ _ _ _ _ _ _ b;
    }

pub row_of-start-requires : goal.row_of-start-requires
row_of-start-requires c = (_, (_, row_rowable _ _ _ _ _ _ _ _ _ _ _ _ _ _ c.requires.1 c.entries.ensures.rows c.entries.ensures.values))

pub bounds-dsigns-k : goal.bounds-dsigns-k
bounds-dsigns-k c = omega (arith, c.requires.1.signs, c.requires.1.below)

pub first_or-requires : goal.first_or-requires
first_or-requires c = c.requires.1.some

pub advance-requires : goal.advance-requires
advance-requires c =
    (c.requires.1.counted, omega (arith, c.requires.1.below, c.requires.1.pivots), omega (arith, c.requires.1.below, c.requires.1.reciprocals))

pub returns : goal.returns
returns c =
    λ s b.
    let p = c.entries.ensures.rows in
    let q = c.entries.ensures.values in
    row_stepped _ _ _ _ _ _ _ _ _ _ _ _ _ _ b p q _ _ _ _ _ _ _ _ _ _ _ _ (c.row_of-start.ensures _ s (row_rowable _ _ _ _ _ _ _ _ _ _ _ _ _ _ b p q)) c.first_or.ensures (c.regularised-pivot.ensures ∙ ap (λ (z : ℤ). pivot_of c.args.regularisation z c.first_or.result) (to_z-of_z w8 (get_or c.args.dsigns.now c.args.progress.row (pos 0)) (search rules))) c.advance.ensures
