-- Document 01: a matrix by its columns, the rows of one column, and the faults that 5 to 8 stand for. Assumes nothing.
use Rattle.std.specs.Prelude.{ℕ, suc, ◌-◌, Bool, true, cond, not, ◌&&◌, ◌||◌, List, [], ◌∷◌, leb, ltb, eqb, Float, length, get_or}
use Rattle.std.proofs.Math.Seq.{slice}
use Rattle.desk.specs.Lists.{any, upto}
use Rattle.csc.specs.declared.CscMatrix.{CscMatrix}

-- "n+1 column pointers, then rows and values of the m entries (m is the length of the rows)"
pub record Csc : Type 0 where
  pub colptr : List ℕ
  pub rowval : List ℕ
  pub nzval : List Float

abbrev pub matrix : List ℕ → List ℕ → List Float → Csc
matrix colptr rowval nzval = record { colptr = colptr; rowval = rowval; nzval = nzval }

-- a matrix as it is lent
abbrev pub lent : CscMatrix → Csc
lent a = matrix a.colptr.now a.rowval.now a.nzval.now

-- "the rows of one column as a part of the lent row list, by pointers and column; the part is empty where the column has no next
-- pointer, its two pointers fall, or the later one passes the list's end" (and likewise its values)
unfoldable pub column : {A : Type 0} → List ℕ → List A → ℕ → List A
column ptr xs c =
    cond (ltb (suc c) (length ptr) && (leb (get_or ptr c 0) (get_or ptr (suc c) 0) && leb (get_or ptr (suc c) 0) (length xs)))
    (slice (get_or ptr c 0) (get_or ptr (suc c) 0) xs)
    []

-- "pointers .. fall"
unfoldable pub fall : List ℕ → Bool
fall ptr = any (λ c. ltb (get_or ptr (suc c) 0) (get_or ptr c 0)) (upto (length ptr - 1))

-- "pointers don't start at 0, fall, or don't end at m"
unfoldable pub bad_pointers : ℕ → List ℕ → Bool
bad_pointers m ptr = not (eqb (get_or ptr 0 1) 0) || (fall ptr || not (eqb (get_or ptr (length ptr - 1) 0) m))

-- 5: "pointers don't start at 0, fall, or don't end at m; or a row is n or more"
unfoldable pub malformed : ℕ → List ℕ → List ℕ → Bool
malformed n ptr rows = bad_pointers (length rows) ptr || any (leb n) rows

-- 6: "a row exceeds its column"
unfoldable pub not_upper : ℕ → List ℕ → List ℕ → Bool
not_upper n ptr rows = any (λ c. any (ltb c) (column ptr rows c)) (upto n)

-- 7: "an input column has no entry"
unfoldable pub empty_column : ℕ → List ℕ → List ℕ → Bool
empty_column n ptr rows = any (λ c. eqb (length (column ptr rows c)) 0) (upto n)

-- the numbers strictly rise
unfoldable pub rises : List ℕ → Bool
rises [] = true
rises (x ∷ []) = true
rises (x ∷ (y ∷ l)) = ltb x y && rises (y ∷ l)

-- 8: "rows within a column don't strictly rise"
unfoldable pub unsorted_column : ℕ → List ℕ → List ℕ → Bool
unsorted_column n ptr rows = any (λ c. not (rises (column ptr rows c))) (upto n)
