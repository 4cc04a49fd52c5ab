-- Document 01: the limits, the numbers that the desk sends back, and the rule which of them is given. Assumes nothing.
use Rattle.std.specs.Prelude.{ℕ, zero, suc, Bool, true, false, cond, ◌||◌, List, [], ◌∷◌, Result, Ok, Err, ltb, eqb, ℤ, pos, negsuc}
use Rattle.desk.specs.declared.Refusal.{Refusal}
use Rattle.desk.specs.declared.Refusal.TheVariants.{NotReady, IncompatibleDimension, BadSize, BadLength, MalformedMatrix, NotUpperTriangular, EmptyColumn, UnsortedColumn, InvalidPermutation, BadSign, Spoiled, BadIndex, NoRoom, ZeroPivot}

infixr 10 ◌⇒◌⨾◌
-- "n is 1 to 2,048; m is at most 65,536."
abbrev pub max_n : ℕ
max_n = 2048

abbrev pub max_m : ℕ
max_m = 65536

-- "BadSize: n outside 1..2,048, or m above 65,536"
abbrev pub bad_size : ℕ → ℕ → Bool
bad_size n m = eqb n 0 || ltb max_n n || ltb max_m m

-- "after analysis also m = 0"
abbrev pub bad_size_later : ℕ → ℕ → Bool
bad_size_later n m = bad_size n m || eqb m 0

-- 10: "a sign outside -1, 0, 1"
abbrev pub bad_sign : ℤ → Bool
bad_sign (pos zero) = false
bad_sign (pos (suc zero)) = false
bad_sign (pos (suc (suc k))) = true
bad_sign (negsuc zero) = false
bad_sign (negsuc (suc k)) = true

-- "Numbers the desk sends back": No. and Name
abbrev pub number_of : Refusal → ℕ
number_of NotReady = 1
number_of IncompatibleDimension = 2
number_of BadSize = 3
number_of BadLength = 4
number_of MalformedMatrix = 5
number_of NotUpperTriangular = 6
number_of EmptyColumn = 7
number_of UnsortedColumn = 8
number_of InvalidPermutation = 9
number_of BadSign = 10
number_of Spoiled = 11
number_of BadIndex = 12
number_of (NoRoom needed) = 13
number_of (ZeroPivot row) = 14

-- "the sum is returned"; "its row is returned"
abbrev pub values_of : Refusal → List ℕ
values_of NotReady = []
values_of IncompatibleDimension = []
values_of BadSize = []
values_of BadLength = []
values_of MalformedMatrix = []
values_of NotUpperTriangular = []
values_of EmptyColumn = []
values_of UnsortedColumn = []
values_of InvalidPermutation = []
values_of BadSign = []
values_of Spoiled = []
values_of BadIndex = []
values_of (NoRoom needed) = needed ∷ []
values_of (ZeroPivot row) = row ∷ []

-- a line of a call's table: the refusal, and whether it applies
pub record Line : Type 0 where
  pub applies : Bool
  pub gives : Refusal

abbrev pub ◌⇒◌⨾◌ : Bool → Refusal → List Line → List Line
test ⇒ refusal ⨾ lines = record { applies = test; gives = refusal } ∷ lines

-- what a call's list of refusals comes to
abbrev pub Verdict : Type 0
Verdict = Result (Unit {0}) Refusal

-- "The lowest number that applies is given": the first line of the table that applies; "0, Ok: none below applies"
unfoldable pub first : List Line → Verdict
first [] = Ok tt
first (line ∷ lines) = cond line.applies (Err line.gives) (first lines)
