-- What an accepted analysis has, line by line of its refusals. Assumes nothing.
use Prim.Native.Nat.{ℕ, ◌<◌, ◌≤◌}
use mathlib.Core.Path.{◌≡◌, sym}
use mathlib.Core.Bool.{false, not}
use mathlib.Core.List.{List, [], ◌∷◌}
use native.Mathlib.Omega.{arith}
use borrow.Author.Tests.{not-false}
use lib.IntN.{ℤ}
use lib.ListN.{length, take}
use Rattle.desk.specs.Lists.{over}
use Rattle.desk.specs.Desk.{bad_size, first}
use Rattle.std.specs.Prelude.{Ok}
use Rattle.desk.proofs.Both.{good_size}
use Rattle.desk.proofs.First.{none-given}
use Rattle.desk.proofs.Over.{take-over}
use Rattle.csc.specs.Csc.{Csc, malformed}
use Rattle.order.specs.Order.{is_ordering, inverse}
use Rattle.order.proofs.Orderings.{length-inverse}
use Rattle.analysis.specs.Analysis.{Written, AnalysisLent, analysis_lent, bad_lengths, analysis_refusals}
use Rattle.analysis.specs.Steps.{Computable}
use Rattle.analysis.proofs.Lengths.{Lengths, good_lengths}

module _ (nrows n : ℕ) (A : Csc) (perm : List ℕ) (signs : List ℤ) (out : Written) (a b c : List ℕ) (ok : Ok tt ≡ first (analysis_refusals (analysis_lent nrows n A perm signs out (a ∷ b ∷ c ∷ [])))) where
  abbrev l : AnalysisLent
  l = analysis_lent nrows n A perm signs out (a ∷ b ∷ c ∷ [])

  -- the lines one after the other: none of them applies
  record Passed : Type 0 where
    size : bad_size n (length A.rowval) ≡ false
    length : bad_lengths l ≡ false
    form : malformed n A.colptr A.rowval ≡ false
    order : not (is_ordering perm) ≡ false

  passed : Passed
  unfolding analysis_refusals
  passed =
      let p1 = (none-given _ _ _ (sym ok)).1 in
      let p2 = none-given _ _ _ p1 in
      let p3 = none-given _ _ _ p2.1 in
      let p4 = none-given _ _ _ p3.1 in
      let p5 = (none-given _ _ _ p4.1).1 in
      let p6 = (none-given _ _ _ p5).1 in
      let p7 = (none-given _ _ _ p6).1 in
      record { size = p2.0; length = p3.0; form = p4.0; order = (none-given _ _ _ p7).0 }

  pub sizes : (0 < n) × (n ≤ 2048) × (length A.rowval ≤ 65536)
  sizes = good_size n (length A.rowval) passed.size

  pub lengths : Lengths n A perm signs out a b c
  lengths = good_lengths nrows n A perm signs out a b c passed.length

  pub computable : (iperm : List ℕ) → iperm ≡ over (inverse perm) a → Computable A perm signs out (take n iperm) b c
  computable iperm e =
      let m = lengths in
      let s = sizes in
      record {
        small = omega (arith, m.ordering);
        entries = s.2;
        formed = rw m.ordering passed.form;
        pointers = rw m.ordering m.pointers;
        values = m.values;
        ordering = not-false (is_ordering perm) passed.order;
        inverted = rw (e, ← m.ordering, ← length-inverse perm) (take-over (inverse perm) a);
        signed = rw m.ordering m.signed;
        room_pointers = rw m.ordering m.room_pointers;
        room_rows = m.room_rows;
        room_values = m.room_values;
        room_map = m.room_map;
        room_parents = rw m.ordering m.room_parents;
        room_counts = rw m.ordering m.room_counts;
        room_signs = rw m.ordering m.room_signs;
        room_next = rw m.ordering m.room_second;
        room_work = rw m.ordering m.room_third;
      }
