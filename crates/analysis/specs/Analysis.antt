-- Document 01: what the analysis is lent, its refusals, and the tables that it writes. Assumes nothing.
use Rattle.std.specs.Prelude.{ℕ, ◌+◌, Bool, not, ◌||◌, ◌&&◌, List, [], ◌∷◌, eqb, ℤ, pos, length, replicate}
use Rattle.desk.specs.Lists.{any, isnt, short, over}
use Rattle.desk.specs.Desk.{Line, ◌⇒◌⨾◌, bad_size, bad_sign}
use Rattle.desk.specs.declared.Refusal.TheVariants.{IncompatibleDimension, BadSize, BadLength, MalformedMatrix, NotUpperTriangular, EmptyColumn, UnsortedColumn, InvalidPermutation, BadSign}
use Rattle.csc.specs.Csc.{Csc, malformed, not_upper, empty_column, unsorted_column}
use Rattle.order.specs.Order.{is_ordering, inverse, permuted}
use Rattle.reorder.specs.Reorder.{reordered, map_of}
use Rattle.tree.specs.Strike.{entry, parents, counts}

-- "Analysis writes the permuted pointers, rows and values, the map, parents, counts, and the signs in the new order"
pub record Written : Type 0 where
  pub P : Csc
  pub map : List ℕ
  pub etree : List ℕ
  pub lnz : List ℕ
  pub dsigns : List ℤ

abbrev pub written : Csc → List ℕ → List ℕ → List ℕ → List ℤ → Written
written P map etree lnz dsigns = record { P = P; map = map; etree = etree; lnz = lnz; dsigns = dsigns }

-- "row count, column count n, n+1 column pointers, then rows and values"; ordering; signs; the written tables; "scratch, 3n u32"
pub record AnalysisLent : Type 0 where
  pub nrows : ℕ
  pub n : ℕ
  pub A : Csc
  pub perm : List ℕ
  pub signs : List ℤ
  pub out : Written
  pub iwork : List (List ℕ)

abbrev pub analysis_lent : ℕ → ℕ → Csc → List ℕ → List ℤ → Written → List (List ℕ) → AnalysisLent
analysis_lent nrows n A perm signs out iwork =
    record { nrows = nrows; n = n; A = A; perm = perm; signs = signs; out = out; iwork = iwork }

-- "m is the length of the rows"
abbrev pub entries_of : AnalysisLent → ℕ
entries_of l = length l.A.rowval

-- 4: "pointers not n+1, rows and values unequal .., ordering .. not n, signs neither 0 nor n in analysis .., or a written table or
-- scratch too short"
unfoldable pub bad_lengths : AnalysisLent → Bool
bad_lengths l =
    let n = l.n in
    let m = entries_of l in
    isnt (n + 1) l.A.colptr || isnt m l.A.nzval || isnt n l.perm || isnt 0 l.signs && isnt n l.signs ||
    short (n + 1) l.out.P.colptr || short m l.out.P.rowval || short m l.out.P.nzval || short m l.out.map ||
    short n l.out.etree || short n l.out.lnz || short n l.out.dsigns || any (short n) l.iwork

-- "Analysis uses 2 to 10"
unfoldable pub analysis_refusals : AnalysisLent → List Line
analysis_refusals l =
    not (eqb l.nrows l.n) ⇒ IncompatibleDimension ⨾
    bad_size l.n (entries_of l) ⇒ BadSize ⨾
    bad_lengths l ⇒ BadLength ⨾
    malformed l.n l.A.colptr l.A.rowval ⇒ MalformedMatrix ⨾
    not_upper l.n l.A.colptr l.A.rowval ⇒ NotUpperTriangular ⨾
    empty_column l.n l.A.colptr l.A.rowval ⇒ EmptyColumn ⨾
    unsorted_column l.n l.A.colptr l.A.rowval ⇒ UnsortedColumn ⨾
    not (is_ordering l.perm) ⇒ InvalidPermutation ⨾
    any bad_sign l.signs ⇒ BadSign ⨾
    []

-- "the signs in the new order (n numbers, all +1 for an empty list)"
abbrev pub new_signs : ℕ → List ℕ → List ℤ → List ℤ
new_signs n perm [] = replicate n (pos 1)
new_signs n perm (s ∷ signs) = permuted (pos 0) perm (s ∷ signs)

-- the reordered triangle, what joins its unknowns, and L's length
abbrev pub triangle : AnalysisLent → Csc
triangle l = reordered l.n (inverse l.perm) l.A

abbrev pub joins : Csc → ℕ → ℕ → Bool
joins P = entry P.colptr P.rowval

unfoldable pub analysed_tables : AnalysisLent → Written
analysed_tables l =
    let P = triangle l in
    record {
      P = record {
        colptr = over P.colptr l.out.P.colptr;
        rowval = over P.rowval l.out.P.rowval;
        nzval = over P.nzval l.out.P.nzval;
      };
      map = over (map_of l.n (inverse l.perm) l.A) l.out.map;
      etree = over (parents l.n (joins P)) l.out.etree;
      lnz = over (counts l.n (joins P)) l.out.lnz;
      dsigns = over (new_signs l.n l.perm l.signs) l.out.dsigns;
    }
