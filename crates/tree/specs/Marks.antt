-- What the helpers of `etree` ask and leave, whatever the graph: the tables between two rows, and within one. Assumes nothing.
use Rattle.std.specs.Prelude.{ℕ, suc, ◌+◌, ◌^◌, ◌<◌, ◌≤◌, ◌≡◌, Bool, true, cond, ◌⊎◌, List, eqb, length, get_or, set, drop}
use Rattle.tree.specs.Strike.{joined, later, none, least_or}

-- the unknowns below n of a graph g, and what the tables held when they were lent
pub record Setting : Type 0 where
  pub n : ℕ
  pub g : ℕ → ℕ → Bool
  pub work : List ℕ
  pub lnz : List ℕ
  pub etree : List ℕ

-- a table whose first n places may be written
pub record Room (n : ℕ) (old new : List ℕ) : Type 0 where
  pub enough : n ≤ length new
  pub size : length new ≡ length old
  pub past : drop n new ≡ drop n old

-- column i has been given its rows below up_to i: their number, and the least of them
pub record Tables (s : Setting) (up_to : ℕ → ℕ) (work lnz etree : List ℕ) : Type 0 where
  pub small : s.n < 2 ^ 32
  pub room_work : Room s.n s.work work
  pub room_counts : Room s.n s.lnz lnz
  pub room_parents : Room s.n s.etree etree
  pub counted : (i : ℕ) → i < s.n → get_or lnz i 0 ≡ length (later (up_to i) s.g i)
  pub parented : (i : ℕ) → i < s.n → get_or etree i 0 ≡ least_or none (later (up_to i) s.g i)

-- no mark is k's or that of a row after it
abbrev pub Fresh : ℕ → ℕ → List ℕ → Type 0
Fresh n k work = (i m : ℕ) → i < n → k ≤ m → m < n → get_or work i 0 ≡ m → ⊥

-- before row j each column has its rows below j
pub record Struck (s : Setting) (j : ℕ) (work lnz etree : List ℕ) : Type 0 where
  pub tables : Tables s (λ i. j) work lnz etree
  pub fresh : Fresh s.n j work

-- within row j a column has row j too where its unknown is marked j
abbrev pub given : List ℕ → ℕ → ℕ → ℕ
given work j i = cond (eqb (get_or work i 0) j) (suc j) j

-- i is j, or column i lists row j
abbrev pub On : (ℕ → ℕ → Bool) → ℕ → ℕ → Type 0
On g j i = (i ≡ j) ⊎ ((i < j) × (joined g i i j ≡ true))

-- the marked are j and some whose columns list row j; the parent of each of these is marked, but where the way up stands at it
pub record Climbing (s : Setting) (j at : ℕ) (work lnz etree : List ℕ) : Type 0 where
  pub below : j < s.n
  pub tables : Tables s (given work j) work lnz etree
  pub here : get_or work j 0 ≡ j
  pub row : (i : ℕ) → i < j → get_or work i 0 ≡ j → joined s.g i i j ≡ true
  pub closed : (i : ℕ) → i < j → get_or work i 0 ≡ j → (get_or work (get_or etree i 0) 0 ≡ j) ⊎ (get_or etree i 0 ≡ at)
  pub fresh : Fresh s.n (suc j) work

-- what `visit` asks and leaves
pub record Visitable (i : ℕ) (work lnz etree : List ℕ) : Type 0 where
  pub room_work : i < length work
  pub room_counts : i < length lnz
  pub room_parents : i < length etree
  pub fits : get_or lnz i 0 < none
  pub next : i + 1 < none

-- "4,294,967,295 stands for none"
abbrev pub or_else : ℕ → ℕ → ℕ
or_else d parent = cond (eqb parent none) d parent

pub record Visited (i j : ℕ) (work₀ work lnz₀ lnz etree₀ etree : List ℕ) (r : ℕ) : Type 0 where
  pub answer : r ≡ or_else j (get_or etree₀ i 0)
  pub marked : work ≡ set work₀ i j
  pub counted : lnz ≡ set lnz₀ i (get_or lnz₀ i 0 + 1)
  pub parented : etree ≡ set etree₀ i r

-- what `climb` asks and leaves
pub record Start (s : Setting) (start j : ℕ) (work lnz etree : List ℕ) : Type 0 where
  pub row : Climbing s j j work lnz etree
  pub on : On s.g j start

pub record Climbed (s : Setting) (start j : ℕ) (work₀ work lnz etree : List ℕ) : Type 0 where
  pub row : Climbing s j j work lnz etree
  pub reached : get_or work start 0 ≡ j
  pub still : (i : ℕ) → get_or work₀ i 0 ≡ j → get_or work i 0 ≡ j

-- rows are those above the diagonal that g joins to j, and perhaps j
pub record Column (g : ℕ → ℕ → Bool) (j : ℕ) (rows : List ℕ) : Type 0 where
  pub on : (q : ℕ) → q < length rows → (get_or rows q 0 ≡ j) ⊎ ((get_or rows q 0 < j) × (g (get_or rows q 0) j ≡ true))
  pub all : (i : ℕ) → i < j → g i j ≡ true → (q : ℕ) × (q < length rows) × (get_or rows q 0 ≡ i)

-- what `strike_column` asks
pub record Next (s : Setting) (j : ℕ) (rows work lnz etree : List ℕ) : Type 0 where
  pub below : j < s.n
  pub column : Column s.g j rows
  pub struck : Struck s j work lnz etree
