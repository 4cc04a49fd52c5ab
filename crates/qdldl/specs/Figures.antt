-- Document 01, "Figures to check at the counter": those marked [P], as one table. Assumes nothing.
use Rattle.std.specs.Prelude.{ℕ, List, [], ◌∷◌, pos, length, replicate}
use Rattle.pivot.specs.Pivots.{one}
use Rattle.csc.specs.Csc.{Csc}
use Rattle.order.specs.Order.{inverse}
use Rattle.tree.specs.Strike.{none, rows_of_l, pointers_of_l}
use Rattle.qdldl.specs.declared.Phase.TheVariants.{Empty}
use Rattle.qdldl.specs.Calls.{answer_number, status}
use Rattle.analysis.specs.Analysis.{Written, AnalysisLent, triangle, joins}
use Rattle.qdldl.specs.Analysing.{analysis}

-- what the definitions give, and what the paper prints
pub record Figure : Type 0 where
  pub given : List ℕ
  pub printed : List ℕ

-- an analysis from an empty status, with tables and scratch just long enough
abbrev pub lent : ℕ → ℕ → List ℕ → List ℕ → List ℕ → AnalysisLent
lent nrows n ptr rows perm =
    let A : Csc = record { colptr = ptr; rowval = rows; nzval = replicate (length rows) one } in
    record {
      nrows = nrows;
      n = n;
      A = A;
      perm = perm;
      signs = [];
      out = record { P = A; map = rows; etree = replicate n 7; lnz = replicate n 7; dsigns = replicate n (pos 7) };
      iwork = perm ∷ perm ∷ perm ∷ [];
    }

abbrev pub after : AnalysisLent → Written
after l = (analysis (status Empty 0 0 0 0 0) l).tables

abbrev pub number : AnalysisLent → List ℕ
number l = answer_number (analysis (status Empty 0 0 0 0 0) l).answer ∷ []

-- "Arrow: pointers 0,1,3,5, rows 0,0,1,0,2"
abbrev pub arrow : List ℕ → AnalysisLent
arrow perm = lent 3 3 (0 ∷ 1 ∷ 3 ∷ 5 ∷ []) (0 ∷ 0 ∷ 1 ∷ 0 ∷ 2 ∷ []) perm

abbrev pub in_order : AnalysisLent
in_order = arrow (0 ∷ 1 ∷ 2 ∷ [])

abbrev pub reversed : AnalysisLent
reversed = arrow (2 ∷ 1 ∷ 0 ∷ [])

abbrev pub single : AnalysisLent
single = lent 1 1 (0 ∷ 1 ∷ []) (0 ∷ []) (0 ∷ [])

-- two unknowns, [4 2; . 3] by its pattern
abbrev pub pair : List ℕ → AnalysisLent
pair perm = lent 2 2 (0 ∷ 1 ∷ 3 ∷ []) (0 ∷ 0 ∷ 1 ∷ []) perm

unfoldable pub figures : List Figure
figures =
    -- "ordering 0,1,2: parents 1,2,none; counts 2,1,0; L rows 1,2 | 2"
    record { given = (after in_order).etree; printed = 1 ∷ 2 ∷ none ∷ [] } ∷
    record { given = (after in_order).lnz; printed = 2 ∷ 1 ∷ 0 ∷ [] } ∷
    record { given = pointers_of_l 3 (joins (triangle in_order)); printed = 0 ∷ 2 ∷ 3 ∷ 3 ∷ [] } ∷
    record { given = rows_of_l 3 (joins (triangle in_order)); printed = 1 ∷ 2 ∷ 2 ∷ [] } ∷
    -- "Arrow, ordering 2,1,0: pointers 0,1,2,5; rows 0,1,2,1,0; map 2,3,1,4,0; parents 2,2,none; counts 1,1,0"
    record { given = (after reversed).P.colptr; printed = 0 ∷ 1 ∷ 2 ∷ 5 ∷ [] } ∷
    record { given = (after reversed).P.rowval; printed = 0 ∷ 1 ∷ 2 ∷ 1 ∷ 0 ∷ [] } ∷
    record { given = (after reversed).map; printed = 2 ∷ 3 ∷ 1 ∷ 4 ∷ 0 ∷ [] } ∷
    record { given = (after reversed).etree; printed = 2 ∷ 2 ∷ none ∷ [] } ∷
    record { given = (after reversed).lnz; printed = 1 ∷ 1 ∷ 0 ∷ [] } ∷
    -- "Ordering 1,1 refused 9; 0,0 refused 9; 2,0,1 has inverse 1,2,0"
    record { given = number (pair (1 ∷ 1 ∷ [])); printed = 9 ∷ [] } ∷
    record { given = number (pair (0 ∷ 0 ∷ [])); printed = 9 ∷ [] } ∷
    record { given = inverse (2 ∷ 0 ∷ 1 ∷ []); printed = 1 ∷ 2 ∷ 0 ∷ [] } ∷
    -- "n=1, one entry: no parent, count 0. n=0 refused 3"
    record { given = (after single).etree; printed = none ∷ [] } ∷
    record { given = (after single).lnz; printed = 0 ∷ [] } ∷
    record { given = number (lent 0 0 (0 ∷ []) [] []); printed = 3 ∷ [] } ∷
    -- "2 by 3 with an ordering of 1,1 refused 2"
    record { given = number (lent 2 3 (0 ∷ 1 ∷ 2 ∷ 3 ∷ []) (0 ∷ 1 ∷ 1 ∷ []) (1 ∷ 1 ∷ [])); printed = 2 ∷ [] } ∷
    []
