-- One turn of a pass over the entries: with the keys ls done, what is left of the keys gives what all of them give. Assumes nothing.
use Prim.Native.Nat.{ℕ, suc, ◌+◌, ◌<◌, ◌≤◌}
use mathlib.Core.Path.{◌≡◌, refl, sym, ap, ◌∙◌}
use mathlib.Core.List.{List, [], ◌∷◌, ◌++◌, map, append_assoc}
use native.Mathlib.Omega.{arith}
use native.Mathlib.Numerals.{add-one}
use lib.Ieee.{Float, nan}
use lib.ListN.{length, get_or, set, take, drop, length-append, length-drop, take-append-drop, drop_of_length-le}
use lib.Seq.{take_at, drop_at, drop-drop, drop-cons, set_split, length-take-le}
use Rattle.desk.specs.Lists.{over}
use Rattle.desk.proofs.Tally.{tally-here}
use Rattle.reorder.specs.Reorder.{places, new_col, new_row}
use Rattle.reorder.specs.Steps.{advanced, placed, cols_of, rows_of, Room, ColumnReady, Filled}
use Rattle.reorder.proofs.Steps.{bump, length-advanced, advanced_append, length-places, places_append, length-placed, placed_append, room_rest}

-- the keys ks are left to count
pub record Left (n m : ℕ) (ks next ks₀ next₀ : List ℕ) : Type 0 where
  pub long : length next ≡ length next₀
  pub room : Room n m next ks
  pub moved : advanced ks next ≡ advanced ks₀ next₀

pub left_all : {n m : ℕ} {ks next : List ℕ} → Room n m next ks → Left n m ks next ks next
left_all r = record { long = refl; room = r; moved = refl }

pub left_on : (n m : ℕ) (ls ks next next' ks₀ next₀ : List ℕ) → n ≤ length next → next' ≡ advanced ls next → Left n m (ls ++ ks) next ks₀ next₀ → Left n m ks next' ks₀ next₀
left_on n m ls ks next next' ks₀ next₀ h e L =
    rw e
    record {
      long = length-advanced ls next ∙ L.long;
      room = room_rest n m ls ks next L.room h;
      moved = sym (advanced_append ls ks next) ∙ L.moved;
    }

pub left_none : (n m : ℕ) (next ks₀ next₀ : List ℕ) → Left n m [] next ks₀ next₀ → next ≡ advanced ks₀ next₀
unfolding advanced
left_none n m next ks₀ next₀ L = L.moved

-- the tables of a pass that fills
pub record Tables : Type 0 where
  pub next : List ℕ
  pub pr : List ℕ
  pub pv : List Float
  pub map : List ℕ

-- the entries with the keys ks, the rows rs and the values vs are left to place; the map is written as far as i, of m
pub record Placing (i m : ℕ) (ks rs : List ℕ) (vs : List Float) (T : Tables) (ks₀ rs₀ : List ℕ) (vs₀ : List Float) (T₀ : Tables) : Type 0 where
  pub counted : i + length ks ≡ m
  pub long_rows : length T.pr ≡ length T₀.pr
  pub long_values : length T.pv ≡ length T₀.pv
  pub long_map : length T.map ≡ length T₀.map
  pub rows : placed (places T.next ks) rs T.pr ≡ placed (places T₀.next ks₀) rs₀ T₀.pr
  pub values : placed (places T.next ks) vs T.pv ≡ placed (places T₀.next ks₀) vs₀ T₀.pv
  pub place : take i T.map ++ (places T.next ks ++ drop m T.map) ≡ over (places T₀.next ks₀) T₀.map

pub placing_all : (m : ℕ) (ks rs : List ℕ) (vs : List Float) (T : Tables) → length ks ≡ m → Placing 0 m ks rs vs T ks rs vs T
unfolding over
placing_all m ks rs vs T e =
    record {
      counted = omega arith;
      long_rows = refl;
      long_values = refl;
      long_map = refl;
      rows = refl;
      values = refl;
      place = rw (length-places, e);
    }

-- the list l with ps written at i; qs are left to write, up to m
module _ (i m : ℕ) (ps qs l : List ℕ) (counted : i + length ps + length qs ≡ m) (fits : m ≤ length l) where
  abbrev written : List ℕ
  written = take i l ++ (ps ++ drop (i + length ps) l)

  head_length : length (take i l ++ ps) ≡ i + length ps
  head_length = omega (arith, length-append (take i l) ps, length-take-le i l (omega arith))

  split : written ≡ (take i l ++ ps) ++ drop (i + length ps) l
  split = sym (append_assoc (take i l) ps (drop (i + length ps) l))

  written-drop : drop m written ≡ drop m l
  written-drop =
      ap (λ (k : ℕ). drop k written) (sym counted)
      ∙ sym (drop-drop (length qs) (i + length ps) written)
      ∙ ap (drop (length qs)) (ap (drop (i + length ps)) split ∙ drop_at (take i l ++ ps) (drop (i + length ps) l) (i + length ps) head_length)
      ∙ drop-drop (length qs) (i + length ps) l
      ∙ ap (λ (k : ℕ). drop k l) counted

  length-written : length written ≡ length l
  length-written =
      omega (arith, ap length split, length-append (take i l ++ ps) (drop (i + length ps) l), head_length, length-drop (i + length ps) l)

  written_on : take (i + length ps) written ++ (qs ++ drop m written) ≡ take i l ++ ((ps ++ qs) ++ drop m l)
  written_on =
      ap (λ (r : List ℕ). r ++ (qs ++ drop m written)) (ap (take (i + length ps)) split ∙ take_at (take i l ++ ps) (drop (i + length ps) l) (i + length ps) head_length)
      ∙ ap (λ (r : List ℕ). (take i l ++ ps) ++ (qs ++ r)) written-drop
      ∙ simp append_assoc

module _ {i m : ℕ} {ks₀ rs₀ : List ℕ} {vs₀ : List Float} {T₀ : Tables} where
  pub placing_on : (ls qs : List ℕ) (ws : List Float) (ks rs : List ℕ) (vs : List Float) (T T' : Tables) → m ≤ length T.map → length qs ≡ length ls → length ws ≡ length ls →
      T'.next ≡ advanced ls T.next → T'.pr ≡ placed (places T.next ls) qs T.pr → T'.pv ≡ placed (places T.next ls) ws T.pv → T'.map ≡ take i T.map ++ (places T.next ls ++ drop (i + length ls) T.map) →
      Placing i m (ls ++ ks) (qs ++ rs) (ws ++ vs) T ks₀ rs₀ vs₀ T₀ → Placing (i + length ls) m ks rs vs T' ks₀ rs₀ vs₀ T₀
  placing_on ls qs ws ks rs vs T T' fits eq ew moved rows values place P =
      let next = T.next in
      let size : length (places next ls) ≡ length ls = length-places ls next in
      let counted : i + length (places next ls) + length (places (advanced ls next) ks) ≡ m =
      omega (arith, P.counted, length-append ls ks, length-places ks (advanced ls next)) in
      let place' : T'.map ≡ written i m (places next ls) (places (advanced ls next) ks) T.map counted fits = rw size place in
      record {
        counted = omega (arith, P.counted, length-append ls ks);
        long_rows = ap length rows ∙ length-placed (places next ls) qs T.pr ∙ P.long_rows;
        long_values = ap length values ∙ length-placed (places next ls) ws T.pv ∙ P.long_values;
        long_map = ap length place' ∙ length-written i m (places next ls) (places (advanced ls next) ks) T.map counted fits ∙ P.long_map;
        rows =
            rw (moved, rows, ← placed_append (places next ls) (places (advanced ls next) ks) qs rs T.pr (size ∙ sym eq), ← places_append ls ks next)
            P.rows;
        values =
            rw (moved, values, ← placed_append (places next ls) (places (advanced ls next) ks) ws vs T.pv (size ∙ sym ew), ← places_append ls ks next)
            P.values;
        place =
            rw (moved, place', ← size)
            (written_on i m (places next ls) (places (advanced ls next) ks) T.map counted fits ∙ (rw (places_append ls ks next) at P.place));
      }

  pub placing_none : (T : Tables) (rs : List ℕ) (vs : List Float) → Placing i m [] rs vs T ks₀ rs₀ vs₀ T₀ → T.next ≡ advanced ks₀ T₀.next → Filled ks₀ rs₀ vs₀ T₀.next T.next T₀.pr T.pr T₀.pv T.pv T₀.map T.map
  unfolding placed places
  placing_none T rs vs P e =
      let d : i ≡ m = omega (arith, P.counted) in
      record {
        moved = e;
        rows = P.rows;
        values = P.values;
        place = sym (take-append-drop m T.map) ∙ (rw d at P.place);
      }

-- one turn over the rows of a column: the row at j, whose new column is k
module _ {c m : ℕ} {rows iperm next₀ : List ℕ} (R : ColumnReady c m rows iperm next₀) (next : List ℕ) (j k : ℕ) (h : j < length rows) (key : k ≡ new_col iperm c (get_or rows j 0)) (L : Left (length iperm) m (cols_of iperm c (drop j rows)) next (cols_of iperm c rows) next₀) where
  key_inside : k < length iperm
  key_inside = omega (arith, R.inverse (get_or rows j 0) (R.inside j h), R.inverse c R.column)

  pub key_next : k < length next
  key_next = omega (arith, key_inside, R.long, L.long)

  keyed : Left (length iperm) m (k ∷ cols_of iperm c (drop (suc j) rows)) next (cols_of iperm c rows) next₀
  keyed = rw key (rw (drop-cons rows j 0 h) at L)

  pub key_room : get_or next k 0 < m
  key_room = omega (arith, keyed.room k key_inside, tally-here k (cols_of iperm c (drop (suc j) rows)))

  pub left_turn : (next' : List ℕ) → next' ≡ bump next k → Left (length iperm) m (cols_of iperm c (drop (j + 1) rows)) next' (cols_of iperm c rows) next₀
  unfolding advanced
  left_turn next' moved =
      rw add-one
      (left_on (length iperm) m (k ∷ []) (cols_of iperm c (drop (suc j) rows)) next next' (cols_of iperm c rows) next₀ (omega (arith, R.long, L.long)) moved keyed)

-- no row is left
pub left_done : (n m j : ℕ) (f : ℕ → ℕ) (rows next ks₀ next₀ : List ℕ) → length rows ≤ j → Left n m (map f (drop j rows)) next ks₀ next₀ → next ≡ advanced ks₀ next₀
left_done n m j f rows next ks₀ next₀ h L = left_none n m next ks₀ next₀ (rw (drop_of_length-le rows {i = j} h) at L)

pub placing_turn : (c j k row p : ℕ) (v : Float) (rows iperm : List ℕ) (vals : List Float) (T T' : Tables) {ks₀ rs₀ : List ℕ} {vs₀ : List Float} {T₀ : Tables} → j < length rows → length vals ≡ length rows → length rows ≤ length T.map →
    k ≡ new_col iperm c (get_or rows j 0) → row ≡ new_row iperm c (get_or rows j 0) → v ≡ get_or vals j nan → p ≡ get_or T.next k 0 →
    T'.next ≡ bump T.next k → T'.pr ≡ set T.pr (get_or T.next k 0) row → T'.pv ≡ set T.pv (get_or T.next k 0) v → T'.map ≡ set T.map j p →
    Placing j (length rows) (cols_of iperm c (drop j rows)) (rows_of iperm c (drop j rows)) (drop j vals) T ks₀ rs₀ vs₀ T₀ → Placing (j + 1) (length rows) (cols_of iperm c (drop (j + 1) rows)) (rows_of iperm c (drop (j + 1) rows)) (drop (j + 1) vals) T' ks₀ rs₀ vs₀ T₀
unfolding advanced places placed
placing_turn c j k row p v rows iperm vals T T' {ks₀} {rs₀} {vs₀} {T₀} h same fits ek er ev ep moved rows' values' place' P =
    let cols = cols_of iperm c (drop (suc j) rows) in
    let rest = rows_of iperm c (drop (suc j) rows) in
    let inside : j < length vals = omega arith in
    let first : Placing j (length rows) (k ∷ cols) (row ∷ rest) (v ∷ drop (suc j) vals) T ks₀ rs₀ vs₀ T₀ =
    rw (ek, er, ev) (rw (drop-cons rows j 0 h, drop-cons vals j nan inside) at P) in
    let written : T'.map ≡ take j T.map ++ (places T.next (k ∷ []) ++ drop (j + 1) T.map) =
    place' ∙ ap (set T.map j) ep ∙ (rw (add-one j) (set_split T.map j (get_or T.next k 0) (omega arith))) in
    rw (← add-one j) at (placing_on {i = j} (k ∷ []) (row ∷ []) (v ∷ []) cols rest (drop (suc j) vals) T T' fits refl refl moved rows' values' written first)

pub placing_done : (m j : ℕ) (f g : ℕ → ℕ) (rows : List ℕ) (vs : List Float) (T : Tables) {ks₀ rs₀ : List ℕ} {vs₀ : List Float} {T₀ : Tables} → length rows ≤ j → Placing j m (map f (drop j rows)) (map g (drop j rows)) vs T ks₀ rs₀ vs₀ T₀ → T.next ≡ advanced ks₀ T₀.next → Filled ks₀ rs₀ vs₀ T₀.next T.next T₀.pr T.pr T₀.pv T.pv T₀.map T.map
placing_done m j f g rows vs T h P e = placing_none T [] vs (rw (drop_of_length-le rows {i = j} h) at P) e
