-- What the kernels of a row ask and leave. Assumes nothing.
use Rattle.std.specs.Prelude.{ℕ, suc, ◌+◌, ◌^◌, ◌<◌, ◌≤◌, ◌≡◌, Bool, true, false, cond, ◌⊎◌, List, [], ◌∷◌, ◌++◌, map, eqb, Float, length, get_or, set, take, drop, replicate}
use Rattle.std.specs.Float.{nan}
use Rattle.std.proofs.Math.Seq.{slice}
use Rattle.desk.specs.Lists.{any, total, upto}
use Rattle.tree.specs.Strike.{none, joined, later, parents, counts, pointers_of_l}
use Rattle.tree.specs.Marks.{On, Column}
use Rattle.pivot.specs.Pivots.{◌⊖◌, ◌⊗◌, +0}
use Rattle.row.specs.Row.{Row, path, visits, spread, diagonal, scattered}
use Rattle.row.specs.Laid.{laid}

-- ---- the order of row k

-- i stands in the list; it does not
abbrev pub In : ℕ → List ℕ → Type 0
In i xs = any (eqb i) xs ≡ true

abbrev pub Out : ℕ → List ℕ → Type 0
Out i xs = any (eqb i) xs ≡ false

-- the parent of i, by the table
abbrev pub up : List ℕ → ℕ → ℕ
up etree i = get_or etree i none

-- each of the list is of row k, stands there once, and its parent is k or stands after it
pub data Climb (g : ℕ → ℕ → Bool) (par : ℕ → ℕ) (k : ℕ) : List ℕ → Type 0 where
  done : Climb g par k []
  next : {i : ℕ} {zs : List ℕ} → i < k → joined g i i k ≡ true → Out i zs → (par i ≡ k) ⊎ In (par i) zs → Climb g par k zs → Climb g par k (i ∷ zs)

-- just the unknowns of the list are marked
abbrev pub Marked : List ℕ → List ℕ → Type 0
Marked xs marks = (i : ℕ) → i < length marks → get_or marks i 0 ≡ cond (any (eqb i) xs) 1 0

-- what `climb` asks: a graph, what is marked so far, and an unknown that is k or of row k
pub record Marking : Type 0 where
  pub g : ℕ → ℕ → Bool
  pub marked : List ℕ

pub record Climbable (s : Marking) (k start : ℕ) (etree marks order : List ℕ) : Type 0 where
  pub small : length order < 2 ^ 32
  pub below : k < length order
  pub tree : etree ≡ parents (length order) s.g
  pub size : length marks ≡ length order
  pub marked : Marked s.marked marks
  pub climb : Climb s.g (up etree) k s.marked
  pub on : On s.g k start

-- what it leaves: the path at the front of the order, and marked
pub record Climbed (s : Marking) (k start : ℕ) (etree marks order₀ order : List ℕ) (len : ℕ) : Type 0 where
  pub walked : take len order ≡ path etree k s.marked k start
  pub kept : drop len order ≡ drop len order₀
  pub room : len + length s.marked ≤ k
  pub marked : Marked (path etree k s.marked k start ++ s.marked) marks

-- what `push` leaves: the first len of the order stand before what stood from top on
pub record Pushed (len top : ℕ) (order₀ order : List ℕ) (r : ℕ) : Type 0 where
  pub lower : r + len ≡ top
  pub stack : drop r order ≡ take len order₀ ++ drop top order₀

-- what `reach` asks and leaves
pub record Reachable (g : ℕ → ℕ → Bool) (k : ℕ) (rows etree marks order : List ℕ) : Type 0 where
  pub small : length order < 2 ^ 32
  pub below : k < length order
  pub tree : etree ≡ parents (length order) g
  pub column : Column g k rows
  pub clear : marks ≡ replicate (length order) 0

pub record Reached (k : ℕ) (rows etree marks order : List ℕ) (top : ℕ) : Type 0 where
  pub inside : top ≤ length order
  pub ordered : drop top order ≡ visits etree k rows []
  pub marked : Marked (visits etree k rows []) marks

-- ---- L's columns

-- n lists, each as long as its column so far
pub record Sized {A : Type 0} (g : ℕ → ℕ → Bool) (n : ℕ) (up_to : ℕ → ℕ) (cols : List (List A)) : Type 0 where
  pub many : length cols ≡ n
  pub long : (c : ℕ) → c < n → length (get_or cols c []) ≡ length (later (up_to c) g c)

-- the rows of n columns so far, with as many values
pub record Shape (g : ℕ → ℕ → Bool) (n : ℕ) (up_to : ℕ → ℕ) (rows : List (List ℕ)) (vals : List (List Float)) : Type 0 where
  pub many : length rows ≡ n
  pub each : (c : ℕ) → c < n → get_or rows c [] ≡ later (up_to c) g c
  pub values : Sized g n up_to vals

-- a column still to come has its rows below k, and each other its rows up to k
abbrev pub given : List ℕ → ℕ → ℕ → ℕ
given rest k c = cond (any (eqb c) rest) k (suc k)

-- the lists of L's columns, and what L's tables held under them
pub record Lists : Type 0 where
  pub rows : List (List ℕ)
  pub vals : List (List Float)
  pub li : List ℕ
  pub lx : List Float

-- with the lists of a row
abbrev pub grown : Lists → Row → Lists
grown s w = record { rows = w.rows; vals = w.vals; li = s.li; lx = s.lx }

-- each column's next free place is behind its rows below up_to, and there is room for all of them
pub record Free (g : ℕ → ℕ → Bool) (n : ℕ) (up_to : ℕ → ℕ) (next : List ℕ) : Type 0 where
  pub fits : total (counts n g) < 2 ^ 32
  pub places : length next ≡ n
  pub place : (c : ℕ) → c < n → get_or next c 0 ≡ get_or (pointers_of_l n g) c 0 + length (later (up_to c) g c)

-- L's tables hold each column's rows below up_to and their values, from its pointer on
pub record Held (g : ℕ → ℕ → Bool) (n : ℕ) (up_to : ℕ → ℕ) (s : Lists) (lp li next : List ℕ) (lx : List Float) : Type 0 where
  pub pointers : lp ≡ pointers_of_l n g
  pub free : Free g n up_to next
  pub room_rows : total (counts n g) ≤ length li
  pub room_values : total (counts n g) ≤ length lx
  pub shape : Shape g n up_to s.rows s.vals
  pub rows_laid : li ≡ laid (pointers_of_l n g) s.rows s.li
  pub values_laid : lx ≡ laid (pointers_of_l n g) s.vals s.lx

-- ---- the elimination

-- what `eliminate` asks of column c: its rows so far from its pointer on, and a place for one more
pub record Eliminable (k c : ℕ) (lp li next marks : List ℕ) (lx dinv y : List Float) : Type 0 where
  pub number : k < 2 ^ 32
  pub pointer : c < length lp
  pub place : c < length next
  pub mark : c < length marks
  pub reciprocal : c < length dinv
  pub at : c < length y
  pub rising : get_or lp c 0 ≤ get_or next c 0
  pub fits : get_or next c 0 + 1 < 2 ^ 32
  pub room_rows : get_or next c 0 < length li
  pub room_values : get_or next c 0 < length lx
  pub listed : (q : ℕ) → q < length (slice (get_or lp c 0) (get_or next c 0) li) → get_or (slice (get_or lp c 0) (get_or next c 0) li) q 0 < length y

-- what it leaves
pub record Eliminated (k c : ℕ) (d : Float) (lp li₀ li next₀ next marks₀ marks : List ℕ) (lx₀ lx dinv y₀ y : List Float) (r : Float) : Type 0 where
  pub diagonal : r ≡ d ⊖ get_or y₀ c nan ⊗ (get_or y₀ c nan ⊗ get_or dinv c nan)
  pub cleared : y ≡ set (scattered (slice (get_or lp c 0) (get_or next₀ c 0) li₀) (slice (get_or lp c 0) (get_or next₀ c 0) lx₀) (get_or y₀ c nan) y₀) c +0
  pub row : li ≡ set li₀ (get_or next₀ c 0) k
  pub value : lx ≡ set lx₀ (get_or next₀ c 0) (get_or y₀ c nan ⊗ get_or dinv c nan)
  pub moved : next ≡ set next₀ c (get_or next₀ c 0 + 1)
  pub unmarked : marks ≡ set marks₀ c 0

-- a graph, row k's column in it, and L's lists before the row
pub record Setting : Type 0 where
  pub g : ℕ → ℕ → Bool
  pub col_rows : List ℕ
  pub col_vals : List Float
  pub lists : Lists

-- what `eliminate_all` asks: the columns in order and marked, the entries in y and d
pub record Ordered (s : Setting) (k top : ℕ) (d : Float) (order lp li next marks : List ℕ) (lx dinv y : List Float) : Type 0 where
  pub small : length y < 2 ^ 32
  pub below : k < length y
  pub column : Column s.g k s.col_rows
  pub ordered : drop top order ≡ visits (parents (length y) s.g) k s.col_rows []
  pub inside : top ≤ length order
  pub marked : Marked (drop top order) marks
  pub size_marks : length marks ≡ length y
  pub reciprocals : k ≤ length dinv
  pub held : Held s.g (length y) (λ c. k) s.lists lp li next lx
  pub entries : y ≡ spread k s.col_rows s.col_vals (replicate (length y) +0)
  pub start : d ≡ diagonal k s.col_rows s.col_vals +0

-- what a row leaves: its D[k] and lists, y all zeros, and no mark
pub record Rowed (g : ℕ → ℕ → Bool) (n k : ℕ) (s : Lists) (w : Row) (lp li next marks : List ℕ) (lx y : List Float) (r : Float) : Type 0 where
  pub diagonal : r ≡ w.d
  pub held : Held g n (λ c. suc k) (grown s w) lp li next lx
  pub unmarked : marks ≡ replicate n 0
  pub cleared : y ≡ replicate n +0

-- what `row_of` asks
pub record Rowable (g : ℕ → ℕ → Bool) (s : Lists) (k : ℕ) (rows : List ℕ) (vals : List Float) (etree lp li next marks order : List ℕ) (lx dinv y : List Float) : Type 0 where
  pub small : length y < 2 ^ 32
  pub below : k < length y
  pub column : Column g k rows
  pub values : length rows ≡ length vals
  pub tree : etree ≡ parents (length y) g
  pub held : Held g (length y) (λ c. k) s lp li next lx
  pub reciprocals : k ≤ length dinv
  pub room : length order ≡ length y
  pub unmarked : marks ≡ replicate (length y) 0
  pub cleared : y ≡ replicate (length y) +0

-- ---- the rows alone, as a logical factor lists them

-- L's rows hold each column's rows below up_to, from its pointer on, over what lay there
pub record Listed (g : ℕ → ℕ → Bool) (n : ℕ) (up_to : ℕ → ℕ) (old li next : List ℕ) : Type 0 where
  pub free : Free g n up_to next
  pub room : total (counts n g) ≤ length li
  pub rows_laid : li ≡ laid (pointers_of_l n g) (map (λ c. later (up_to c) g c) (upto n)) old

-- what `list_all` asks, where the columns of `rest` are still to come, in order and marked
pub record Listing (g : ℕ → ℕ → Bool) (n k : ℕ) (old rest li next marks : List ℕ) : Type 0 where
  pub small : n < 2 ^ 32
  pub below : k < n
  pub climb : Climb g (up (parents n g)) k rest
  pub listed : Listed g n (given rest k) old li next
  pub marked : Marked rest marks
  pub size : length marks ≡ n

-- what `list_row` asks
pub record Listable (g : ℕ → ℕ → Bool) (old : List ℕ) (k : ℕ) (rows etree li next marks order : List ℕ) : Type 0 where
  pub small : length order < 2 ^ 32
  pub below : k < length order
  pub column : Column g k rows
  pub tree : etree ≡ parents (length order) g
  pub listed : Listed g (length order) (λ c. k) old li next
  pub unmarked : marks ≡ replicate (length order) 0

-- what both leave
pub record RowListed (g : ℕ → ℕ → Bool) (n k : ℕ) (old li next marks : List ℕ) : Type 0 where
  pub listed : Listed g n (λ c. suc k) old li next
  pub unmarked : marks ≡ replicate n 0
