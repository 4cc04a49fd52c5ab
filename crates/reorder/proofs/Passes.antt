-- One turn of a pass over the columns: with the rows of column c done, what is left of the entries gives what all of them give. Assumes nothing.
use Prim.Native.Nat.{ℕ, ◌+◌, ◌-◌, ◌<◌, ◌≤◌}
use mathlib.Core.Path.{◌≡◌, sym, ap, ◌∙◌}
use mathlib.Core.List.{List, ◌++◌}
use native.Mathlib.Nat.{sub-zero}
use native.Mathlib.Omega.{arith}
use lib.Ieee.{Float}
use lib.ListN.{length, get_or, take, drop, length-map, length-drop, take-append-drop}
use lib.Seq.{drop-drop, length-take-le}
use Rattle.desk.specs.Lists.{from}
use Rattle.csc.specs.Csc.{column}
use Rattle.reorder.specs.Reorder.{new_col, new_row, new_cols, new_rows, per_entry, places}
use Rattle.reorder.specs.Steps.{advanced, cols_of, rows_of, ColumnReady, EntriesReady, Filled}
use Rattle.csc.proofs.Formed.{Formed, formed, ends, length-column, column-inside}
use Rattle.reorder.proofs.Formed.{entries_more, entries_none, length-entries-upto}
use Rattle.reorder.proofs.Steps.{room-first, length-places}
use Rattle.desk.proofs.Over.{over-whole}
use Rattle.desk.proofs.Upto.{from_range}
use Rattle.reorder.proofs.Turns.{Left, left_all, left_on, left_none, Tables, Placing, placing_all, placing_on, placing_none}

-- the new column, and the new row, of each entry from column c on
abbrev pub cols_from : List ℕ → List ℕ → List ℕ → ℕ → List ℕ
cols_from iperm ptr rows c = per_entry (new_col iperm) ptr rows (from c (length iperm - c))

abbrev pub rows_from : List ℕ → List ℕ → List ℕ → ℕ → List ℕ
rows_from iperm ptr rows c = per_entry (new_row iperm) ptr rows (from c (length iperm - c))

module _ {m : ℕ} {ptr rows iperm next₀ : List ℕ} (E : EntriesReady m ptr rows iperm next₀) where
  well : Formed (length iperm) ptr rows
  well = formed (length iperm) ptr rows E.pointers E.formed

  pub pass_all : Left (length iperm) m (cols_from iperm ptr rows 0) next₀ (new_cols (length iperm) iperm ptr rows) next₀
  pass_all = rw (sub-zero, from_range 0 (length iperm)) (left_all E.room)

  module _ (next : List ℕ) (c : ℕ) (L : Left (length iperm) m (cols_from iperm ptr rows c) next (new_cols (length iperm) iperm ptr rows) next₀) where
    pub pass_done : length iperm ≤ c → next ≡ advanced (new_cols (length iperm) iperm ptr rows) next₀
    pass_done h = left_none _ _ _ _ _ (rw (entries_none (new_col iperm) ptr rows (length iperm) c h) at L)

    module _ (h : c < length iperm) (part : List ℕ) (e : part ≡ column ptr rows c) where
      left : Left (length iperm) m (cols_of iperm c part ++ cols_from iperm ptr rows (c + 1)) next (new_cols (length iperm) iperm ptr rows) next₀
      left = rw (e, ← entries_more (new_col iperm) ptr rows (length iperm) c h) L

      long : length iperm ≤ length next
      long = omega (arith, E.long, L.long)

      pub column-ready : ColumnReady c m part iperm next
      column-ready =
          record {
            column = h;
            inside = rw e (column-inside well c h);
            inverse = E.inverse;
            long = long;
            room = room-first (length iperm) m (cols_of iperm c part) (cols_from iperm ptr rows (c + 1)) next left.room;
          }

      pub pass_on : (next' : List ℕ) → next' ≡ advanced (cols_of iperm c part) next → Left (length iperm) m (cols_from iperm ptr rows (c + 1)) next' (new_cols (length iperm) iperm ptr rows) next₀
      pass_on next' moved = left_on (length iperm) m (cols_of iperm c part) (cols_from iperm ptr rows (c + 1)) next next' _ next₀ long moved left

  pub placing_begin : (nzval : List Float) (T : Tables) → Placing (get_or ptr 0 0) (length rows) (cols_from iperm ptr rows 0) (rows_from iperm ptr rows 0) (drop (get_or ptr 0 0) nzval) T (new_cols (length iperm) iperm ptr rows) (new_rows (length iperm) iperm ptr rows) nzval T
  placing_begin nzval T =
      rw (sub-zero, well.first, from_range 0 (length iperm))
      (placing_all (length rows) (new_cols (length iperm) iperm ptr rows) (new_rows (length iperm) iperm ptr rows) nzval T
      (omega (arith, length-entries-upto well (new_col iperm), well.first)))

  module _ (c : ℕ) (h : c < length iperm) (part : List ℕ) (e : part ≡ column ptr rows c) {a z : ℕ} (p : a ≡ get_or ptr c 0) (q : z ≡ get_or ptr (c + 1) 0) where
    pub starts-below : a ≤ z
    starts-below = omega (arith, well.rises c h)

    pub ends_inside : z ≤ length rows
    ends_inside = omega (arith, ends well c h)

    long_part : a + length part ≡ z
    long_part = omega (arith, length-column well c h, ap length e)

    pub long-lent : {A : Type 0} (l : List A) → length rows ≤ length l → length (take (z - a) (drop a l)) ≡ length part
    long-lent l fits =
        length-take-le (z - a) (drop a l) (omega (arith, length-drop a l, ends_inside)) ∙ omega (arith, long_part)

    later : {A : Type 0} (l : List A) → drop (z - a) (drop a l) ≡ drop z l
    later l = let end : a + (z - a) ≡ z = omega (arith, starts-below) in drop-drop (z - a) a l ∙ ap (λ (i : ℕ). drop i l) end

    pub placing_pass : (nzval : List Float) (T : Tables) (next' pr' map' : List ℕ) (pv' : List Float) {ks₀ rs₀ : List ℕ} {vs₀ : List Float} {T₀ : Tables} → length nzval ≡ length rows → length rows ≤ length T.map →
        Filled (cols_of iperm c part) (rows_of iperm c part) (take (z - a) (drop a nzval)) T.next next' T.pr pr' T.pv pv' (take (z - a) (drop a T.map)) map' →
        Placing (get_or ptr c 0) (length rows) (cols_from iperm ptr rows c) (rows_from iperm ptr rows c) (drop (get_or ptr c 0) nzval) T ks₀ rs₀ vs₀ T₀ →
        Placing (get_or ptr (c + 1) 0) (length rows) (cols_from iperm ptr rows (c + 1)) (rows_from iperm ptr rows (c + 1)) (drop (get_or ptr (c + 1) 0) nzval) (record { next = next'; pr = pr'; pv = pv'; map = take a T.map ++ (map' ++ drop (z - a) (drop a T.map)) }) ks₀ rs₀ vs₀ T₀
    placing_pass nzval T next' pr' map' pv' {ks₀} {rs₀} {vs₀} {T₀} same fits F P =
        let ls = cols_of iperm c part in
        let vs = take (z - a) (drop a nzval) in
        let size : length ls ≡ length part = length-map part (new_col iperm c) in
        let values : drop a nzval ≡ vs ++ drop z nzval =
        sym (take-append-drop (z - a) (drop a nzval)) ∙ ap (λ (l : List Float). vs ++ l) (later nzval) in
        let first : Placing a (length rows) (ls ++ cols_from iperm ptr rows (c + 1)) (rows_of iperm c part ++ rows_from iperm ptr rows (c + 1)) (vs ++ drop z nzval) T ks₀ rs₀ vs₀ T₀ =
        rw (← values, e, ← entries_more (new_col iperm) ptr rows (length iperm) c h, ← entries_more (new_row iperm) ptr rows (length iperm) c h, p) P in
        let end : a + length ls ≡ z = omega (arith, long_part) in
        let whole : map' ≡ places T.next ls =
        F.place ∙ over-whole (places T.next ls) (take (z - a) (drop a T.map)) (omega (arith, long-lent T.map fits, length-places ls T.next)) in
        let written : take a T.map ++ (map' ++ drop (z - a) (drop a T.map)) ≡ take a T.map ++ (places T.next ls ++ drop (a + length ls) T.map) =
        rw (whole, later T.map, end) in
        rw (← q)
        (rw end at (placing_on {i = a} ls (rows_of iperm c part) vs (cols_from iperm ptr rows (c + 1)) (rows_from iperm ptr rows (c + 1)) (drop z nzval) T (record { next = next'; pr = pr'; pv = pv'; map = take a T.map ++ (map' ++ drop (z - a) (drop a T.map)) }) fits
        (length-map part (new_row iperm c) ∙ sym size) (long-lent nzval (omega arith) ∙ sym size) F.moved F.rows F.values written first))

  pub placing_end : (nzval : List Float) (c : ℕ) (T T₀ : Tables) (ks₀ rs₀ : List ℕ) (vs₀ : List Float) → length iperm ≤ c → Placing (get_or ptr c 0) (length rows) (cols_from iperm ptr rows c) (rows_from iperm ptr rows c) (drop (get_or ptr c 0) nzval) T ks₀ rs₀ vs₀ T₀ → T.next ≡ advanced ks₀ T₀.next → Filled ks₀ rs₀ vs₀ T₀.next T.next T₀.pr T.pr T₀.pv T.pv T₀.map T.map
  placing_end nzval c T T₀ ks₀ rs₀ vs₀ h P e =
      placing_none T (rows_from iperm ptr rows c) (drop (get_or ptr c 0) nzval) (rw (entries_none (new_col iperm) ptr rows (length iperm) c h) at P) e
