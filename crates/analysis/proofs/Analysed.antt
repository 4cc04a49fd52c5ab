-- The steps of an accepted analysis, one after the other: what each asks follows from what the refusals have ruled out and from what
-- the steps before it left, and together they leave the tables of document 01. Assumes nothing.
use Prim.Native.Nat.{ℕ, ◌+◌}
use mathlib.Core.Path.{◌≡◌, ap, ◌∙◌}
use mathlib.Core.List.{List}
use native.Mathlib.Omega.{arith}
use lib.IntN.{ℤ}
use lib.ListN.{length, take}
use Rattle.desk.specs.Lists.{over, total}
use Rattle.desk.proofs.Over.{take-over}
use Rattle.csc.specs.Csc.{Csc}
use Rattle.order.specs.Order.{inverse}
use Rattle.order.proofs.Orderings.{length-inverse, get_or-inverse, place-below}
use Rattle.reorder.specs.Reorder.{reordered, map_of}
use Rattle.reorder.specs.Kernels.{Reorderable, Reordered}
use Rattle.reorder.proofs.Upper.{length-colptr, length-rowval, reordered-steady, reordered-upper}
use Rattle.tree.specs.Strike.{parents, counts}
use Rattle.tree.specs.Tree.{Upper, Treed}
use Rattle.tree.proofs.Later.{length-counts}
use Rattle.analysis.specs.Analysis.{Written, written, new_signs, joins, analysed_tables}
use Rattle.analysis.specs.Steps.{SignsFit, Computable, Computed}

-- the front of a written table, where it is n long
front : {A : Type 0} (n : ℕ) (y x l : List A) → l ≡ over y x → length y ≡ n → take n l ≡ y
front n y x l e h = rw (e, ← h) (take-over y x)

module _ (A : Csc) (perm : List ℕ) (signs : List ℤ) (out : Written) (iperm next work : List ℕ) (K : Computable A perm signs out iperm next work) where
  abbrev T : Csc
  T = reordered (length perm) (inverse perm) A

  pub reorderable : Reorderable iperm A out.P out.map next
  reorderable = rw K.inverted (record {
    formed = rw (length-inverse perm) K.formed;
    pointers = rw (length-inverse perm) K.pointers;
    values = K.values;
    small = omega (arith, K.entries);
    inverse = λ k h. rw (length-inverse perm, get_or-inverse perm k (omega (arith, length-inverse perm))) (place-below perm K.ordering k (omega (arith, length-inverse perm)));
    room_pointers = omega (arith, length-inverse perm, K.room_pointers);
    room_rows = K.room_rows;
    room_values = K.room_values;
    room_map = K.room_map;
    room_next = omega (arith, length-inverse perm, K.room_next);
  })

  pub signs_fit : SignsFit perm signs out.dsigns
  signs_fit = record { ordering = K.ordering; signed = K.signed; room = K.room_signs }

  long : length iperm ≡ length perm
  long = ap length K.inverted ∙ length-inverse perm

  -- the order is the ordering's
  order : reordered (length iperm) iperm A ≡ T
  order = rw (K.inverted, length-inverse perm)

  pointers : length T.colptr ≡ length perm + 1
  pointers = rw (← order, ← long) (length-colptr iperm A out.P out.map next reorderable)

  rows : length T.rowval ≡ length A.rowval
  rows = rw (← order) (length-rowval iperm A out.P out.map next reorderable)

  module _ (P : Csc) (map : List ℕ) (R : Reordered iperm A out.P P out.map map) where
    pub colptr_part : take (length perm + 1) P.colptr ≡ T.colptr
    colptr_part = front (length perm + 1) T.colptr out.P.colptr P.colptr (rw order at R.colptr) pointers

    pub rowval_part : take (length A.rowval) P.rowval ≡ T.rowval
    rowval_part = front (length A.rowval) T.rowval out.P.rowval P.rowval (rw order at R.rowval) rows

    pub upper : Upper (length perm) (take (length perm + 1) P.colptr) (take (length A.rowval) P.rowval) work out.lnz out.etree
    upper = rw (colptr_part, rowval_part) (record {
      small = omega (arith, K.small);
      pointers = pointers;
      steady = rw (rows, ← order) (reordered-steady iperm A out.P out.map next reorderable);
      upper = rw (← order, ← long) (reordered-upper iperm A out.P out.map next reorderable);
      room_work = K.room_work;
      room_counts = K.room_counts;
      room_parents = K.room_parents;
    })

    module _ (lnz etree : List ℕ) (S : Treed (length perm) (take (length perm + 1) P.colptr) (take (length A.rowval) P.rowval) out.lnz lnz out.etree etree) where
      pub counts_part : take (length perm) lnz ≡ counts (length perm) (joins T)
      counts_part =
          front (length perm) (counts (length perm) (joins T)) out.lnz lnz (rw (colptr_part, rowval_part) at S.struck_counts) (length-counts (joins T) (length perm))

      pub computed : (dsigns : List ℤ) (r : ℕ) → dsigns ≡ over (new_signs (length perm) perm signs) out.dsigns → r ≡ total (take (length perm) lnz) →
          Computed A perm signs out (written P map etree lnz dsigns) r
      unfolding analysed_tables
      computed dsigns r e q =
          let c : P.colptr ≡ over T.colptr out.P.colptr = rw order at R.colptr in
          let v : P.rowval ≡ over T.rowval out.P.rowval = rw order at R.rowval in
          let x : P.nzval ≡ over T.nzval out.P.nzval = rw order at R.nzval in
          let m : map ≡ over (map_of (length perm) (inverse perm) A) out.map = rw (K.inverted, length-inverse perm) at R.places in
          let t : etree ≡ over (parents (length perm) (joins T)) out.etree = rw (colptr_part, rowval_part) at S.struck_parents in
          let l : lnz ≡ over (counts (length perm) (joins T)) out.lnz = rw (colptr_part, rowval_part) at S.struck_counts in
          record {
            tables = λ i. record { P = record { colptr = c i; rowval = v i; nzval = x i }; map = m i; etree = t i; lnz = l i; dsigns = e i };
            sum = q ∙ ap total counts_part;
          }
