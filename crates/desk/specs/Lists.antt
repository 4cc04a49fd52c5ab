-- The few words on lists that the definitions use beside the library's. Assumes nothing.
use Rattle.std.specs.List.{list_any, list_all, range_with_len}
use Rattle.std.specs.Prelude.{filter, ℕ, zero, suc, ◌+◌, Bool, cond, not, List, [], ◌∷◌, ◌++◌, ltb, eqb, length, drop}

-- the k numbers from i on
unfoldable pub from : ℕ → ℕ → List ℕ
from i zero = []
from i (suc k) = i ∷ from (suc i) k

-- 0, 1, .., n - 1
abbrev pub upto : ℕ → List ℕ
upto n = range_with_len 0 n

module _ {A : Type 0} where
  -- one of the list passes the test
  abbrev pub any : (A → Bool) → List A → Bool
  any = list_any

  -- each of the list passes the test
  abbrev pub all : (A → Bool) → List A → Bool
  all = list_all

  -- those that pass the test, in their order
  abbrev pub keep : (A → Bool) → List A → List A
  keep = filter

  -- the lists one after the other
  unfoldable pub join_all : List (List A) → List A
  join_all [] = []
  join_all (l ∷ ls) = l ++ join_all ls

  -- the list is not n long; it is shorter than n
  abbrev pub isnt : ℕ → List A → Bool
  isnt n xs = not (eqb (length xs) n)

  abbrev pub short : ℕ → List A → Bool
  short n xs = ltb (length xs) n

  -- "A longer written buffer keeps what lies past the needed part."
  unfoldable pub over : List A → List A → List A
  over new old = new ++ drop (length new) old

-- how often v stands in the list
unfoldable pub tally : ℕ → List ℕ → ℕ
tally v [] = 0
tally v (x ∷ xs) = cond (eqb x v) (suc (tally v xs)) (tally v xs)

-- s, then s with each number added in turn
unfoldable pub sums : ℕ → List ℕ → List ℕ
sums s [] = s ∷ []
sums s (x ∷ xs) = s ∷ sums (s + x) xs

-- the sum of the numbers
unfoldable pub total : List ℕ → ℕ
total [] = 0
total (x ∷ xs) = x + total xs
