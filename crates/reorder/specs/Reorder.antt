-- Document 01, piece 3: the reordered triangle and its map. Assumes nothing.
use Rattle.std.specs.Prelude.{ℕ, ◌+◌, min, max, cond, List, [], ◌∷◌, map, eqb, get_or, set}
use Rattle.desk.specs.Lists.{upto, join_all, tally, sums}
use Rattle.csc.specs.Csc.{Csc, column}

-- "entry (r, c) goes to column max(iperm[r], iperm[c]), row the minimum"
abbrev pub new_col : List ℕ → ℕ → ℕ → ℕ
new_col iperm c r = max (get_or iperm r 0) (get_or iperm c 0)

abbrev pub new_row : List ℕ → ℕ → ℕ → ℕ
new_row iperm c r = min (get_or iperm r 0) (get_or iperm c 0)

-- f of column and row, for each entry in input storage order
unfoldable pub per_entry : (ℕ → ℕ → ℕ) → List ℕ → List ℕ → List ℕ → List ℕ
per_entry f ptr rows cols = join_all (map (λ c. map (f c) (column ptr rows c)) cols)

-- the new column, and the new row, of each entry
abbrev pub new_cols : ℕ → List ℕ → List ℕ → List ℕ → List ℕ
new_cols n iperm ptr rows = per_entry (new_col iperm) ptr rows (upto n)

abbrev pub new_rows : ℕ → List ℕ → List ℕ → List ℕ → List ℕ
new_rows n iperm ptr rows = per_entry (new_row iperm) ptr rows (upto n)

-- those of the xs whose new column is c, in their order
unfoldable pub in_column : {A : Type 0} → ℕ → List ℕ → List A → List A
in_column c [] xs = []
in_column c (k ∷ ks) [] = []
in_column c (k ∷ ks) (x ∷ xs) = cond (eqb k c) (x ∷ in_column c ks xs) (in_column c ks xs)

-- "Columns fill in input storage order, so their rows may be unsorted."
unfoldable pub gathered : {A : Type 0} → List ℕ → List ℕ → List A → List A
gathered cols ks xs = join_all (map (λ c. in_column c ks xs) cols)

-- the pointers: where each column begins, and the end
unfoldable pub starts : ℕ → List ℕ → List ℕ
starts n ks = sums 0 (map (λ c. tally c ks) (upto n))

-- "The map gives each input entry's new place": the next free one of its new column
unfoldable pub places : List ℕ → List ℕ → List ℕ
places next [] = []
places next (k ∷ ks) = get_or next k 0 ∷ places (set next k (get_or next k 0 + 1)) ks

-- the reordered triangle
unfoldable pub reordered : ℕ → List ℕ → Csc → Csc
reordered n iperm A =
    let ks = new_cols n iperm A.colptr A.rowval in
    record {
      colptr = starts n ks;
      rowval = gathered (upto n) ks (new_rows n iperm A.colptr A.rowval);
      nzval = gathered (upto n) ks A.nzval;
    }

-- its map
unfoldable pub map_of : ℕ → List ℕ → Csc → List ℕ
map_of n iperm A = let ks = new_cols n iperm A.colptr A.rowval in places (starts n ks) ks
