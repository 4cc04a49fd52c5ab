-- The steps of the code, in which the contracts of its private functions are said. No part of document 01. Assumes nothing.
use Rattle.std.specs.Prelude.{ℕ, ◌+◌, ◌-◌, ◌^◌, ◌<◌, ◌≤◌, min, ◌≡◌, false, List, [], ◌∷◌, map, Float, length, get_or, set}
use Rattle.desk.specs.Lists.{tally, over}
use Rattle.csc.specs.Csc.{malformed}
use Rattle.reorder.specs.Reorder.{new_col, new_row, new_cols, places}

-- the new column, and the new row, of each of the rows of column c
abbrev pub cols_of : List ℕ → ℕ → List ℕ → List ℕ
cols_of iperm c rows = map (new_col iperm c) rows

abbrev pub rows_of : List ℕ → ℕ → List ℕ → List ℕ
rows_of iperm c rows = map (new_row iperm c) rows

-- the counts, or the next free places, after each key's has grown by one
unfoldable pub advanced : List ℕ → List ℕ → List ℕ
advanced [] next = next
advanced (k ∷ ks) next = advanced ks (set next k (get_or next k 0 + 1))

-- the table after each x is written to its place
unfoldable pub placed : {A : Type 0} → List ℕ → List A → List A → List A
placed [] xs out = out
placed (p ∷ ps) [] out = out
placed (p ∷ ps) (x ∷ xs) out = placed ps xs (set out p x)

-- no count of a key below n passes m while the keys come
abbrev pub Room : ℕ → ℕ → List ℕ → List ℕ → Type 0
Room n m next ks = (k : ℕ) → k < n → get_or next k 0 + tally k ks ≤ m

-- the largest number of a table
abbrev pub widest : ℕ
widest = 2 ^ 32 - 1

-- as many places as both tables have and a table's number names
abbrev pub room_of : List ℕ → List Float → ℕ
room_of pr pv = min widest (min (length pr) (length pv))

-- what a pass over the rows of column c asks
pub record ColumnReady (c m : ℕ) (rows iperm next : List ℕ) : Type 0 where
  pub column : c < length iperm
  pub inside : (j : ℕ) → j < length rows → get_or rows j 0 < length iperm
  pub inverse : (k : ℕ) → k < length iperm → get_or iperm k 0 < length iperm
  pub long : length iperm ≤ length next
  pub room : Room (length iperm) m next (cols_of iperm c rows)

-- what a pass over all columns asks
pub record EntriesReady (m : ℕ) (ptr rows iperm next : List ℕ) : Type 0 where
  pub formed : malformed (length iperm) ptr rows ≡ false
  pub pointers : length ptr ≡ length iperm + 1
  pub inverse : (k : ℕ) → k < length iperm → get_or iperm k 0 < length iperm
  pub long : length iperm ≤ length next
  pub room : Room (length iperm) m next (new_cols (length iperm) iperm ptr rows)

-- what filling leaves of entries with the new columns ks, the new rows rs and the values vs
pub record Filled (ks rs : List ℕ) (vs : List Float) (next₀ next pr₀ pr : List ℕ) (pv₀ pv : List Float) (map₀ map : List ℕ) : Type 0 where
  pub moved : next ≡ advanced ks next₀
  pub rows : pr ≡ placed (places next₀ ks) rs pr₀
  pub values : pv ≡ placed (places next₀ ks) vs pv₀
  pub place : map ≡ over (places next₀ ks) map₀
