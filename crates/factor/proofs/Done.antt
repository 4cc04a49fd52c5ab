-- Laws of the tables after a numeric factor: each column's rows and values so far lie at its pointer; and where no pivot was zero L's rows
-- are those of plain striking out, column by column (demand 3). Assumes nothing.
use Prim.Native.Nat.{ℕ, ◌+◌, ◌-◌, ◌≤◌, ◌<◌}
use mathlib.Core.Path.{◌≡◌, ap, ◌∙◌}
use mathlib.Core.Bool.{false}
use mathlib.Core.List.{List, [], ◌++◌, append-nil}
use native.Mathlib.Omega.{arith}
use lib.IntN.{ℤ}
use lib.Ieee.{Float}
use lib.ListN.{length, get_or, replicate}
use lib.Seq.{slice}
use Rattle.desk.specs.Lists.{total, over}
use Rattle.csc.specs.Csc.{Csc, column, not_upper}
use Rattle.tree.specs.Strike.{later, counts, rows_of_l, pointers_of_l}
use Rattle.pivot.specs.declared.Regularisation.{Regularisation}
use Rattle.pivot.specs.Pivots.{+0}
use Rattle.row.specs.Laid.{laid}
use Rattle.row.specs.Kernels.{Shape}
use Rattle.row.proofs.Shape.{shape_sized, shape-lists}
use Rattle.factor.specs.Factor.{Work, Tables, begun, tables_of, logical_tables}
use Rattle.row.proofs.Laid.{laid_nothing}
use Rattle.row.proofs.OfL.{part, column-laid, filled, column-rows}
use Rattle.factor.proofs.Runs.{graph, ran, run_going}

-- before the first row the tables are what they were
pub begun-li : (ps : List ℕ) (n : ℕ) (old : List ℕ) → laid ps (begun n).rows old ≡ old
unfolding begun
begun-li ps n old = laid_nothing ps n old

pub begun-lx : (ps : List ℕ) (n : ℕ) (old : List Float) → laid ps (begun n).vals old ≡ old
unfolding begun
begun-lx ps n old = laid_nothing ps n old

-- after a logical factor each column of L lists the later rows that its unknown is joined to when it goes
pub logical-rows : (n : ℕ) (A : Csc) (old : Tables) → total (counts n (graph A)) ≤ length old.li → (c : ℕ) → c < n →
    column (logical_tables n A old).lp (logical_tables n A old).li c ≡ later n (graph A) c
unfolding logical_tables
logical-rows n A old long c h = column-rows n (graph A) old.lp old.li long c h

-- after the rows below t, whether it goes on or stopped at the last of them: from column c's pointer on lie its rows below t, and as many values
module _ (n : ℕ) (A : Csc) (w : Work) (t : ℕ) (tn : t ≤ n) (s : Shape (graph A) n (λ c. t) w.rows w.vals) (old : Tables) where
  pub part_li : total (counts n (graph A)) ≤ length old.li → (c : ℕ) → c < n →
      slice (get_or (pointers_of_l n (graph A)) c 0) (get_or (pointers_of_l n (graph A)) c 0 + length (later t (graph A) c)) (tables_of n A w old).li ≡ later t (graph A) c
  unfolding tables_of
  part_li long c h = part (shape_sized s) old.li (λ c _. tn) long c h ∙ s.each c h

  pub part_lx : total (counts n (graph A)) ≤ length old.lx → (c : ℕ) → c < n →
      slice (get_or (pointers_of_l n (graph A)) c 0) (get_or (pointers_of_l n (graph A)) c 0 + length (later t (graph A) c)) (tables_of n A w old).lx ≡ get_or w.vals c []
  unfolding tables_of
  part_lx long c h = part s.values old.lx (λ c _. tn) long c h

module _ (n : ℕ) (A : Csc) (upper : not_upper n A.colptr A.rowval ≡ false) (dsigns : List ℤ) (reg : Regularisation) (old : Tables) where
  -- so after a run of the rows below t with no zero pivot
  pub rows_so_far : (t : ℕ) → t ≤ n → (ran n A dsigns reg t).stopped ≡ false → total (counts n (graph A)) ≤ length old.li → (c : ℕ) → c < n →
      slice (get_or (pointers_of_l n (graph A)) c 0) (get_or (pointers_of_l n (graph A)) c 0 + length (later t (graph A) c)) (tables_of n A (ran n A dsigns reg t) old).li
      ≡ later t (graph A) c
  rows_so_far t h e = part_li n A (ran n A dsigns reg t) t h (run_going n A upper dsigns reg t h e).shape old

  -- ---- after all rows

  module _ (goes_on : (ran n A dsigns reg n).stopped ≡ false) where
    shape : Shape (graph A) n (λ c. n) (ran n A dsigns reg n).rows (ran n A dsigns reg n).vals
    shape = (run_going n A upper dsigns reg n (omega arith) goes_on).shape

    -- so does a numeric one, and as many values
    pub done-rows : total (counts n (graph A)) ≤ length old.li → (c : ℕ) → c < n →
        column (tables_of n A (ran n A dsigns reg n) old).lp (tables_of n A (ran n A dsigns reg n) old).li c ≡ later n (graph A) c
    unfolding tables_of
    done-rows long c h = column-laid (shape_sized shape) old.li long old.lp c h ∙ shape.each c h

    pub done-vals : total (counts n (graph A)) ≤ length old.lx → (c : ℕ) → c < n →
        column (tables_of n A (ran n A dsigns reg n) old).lp (tables_of n A (ran n A dsigns reg n) old).lx c ≡ get_or (ran n A dsigns reg n).vals c []
    unfolding tables_of
    done-vals long c h = column-laid shape.values old.lx long old.lp c h

    -- all columns are L's rows of plain striking out, as after a logical factor
    pub done-li : total (counts n (graph A)) ≤ length old.li → (tables_of n A (ran n A dsigns reg n) old).li ≡ over (rows_of_l n (graph A)) old.li
    unfolding tables_of rows_of_l
    done-li long = filled (shape_sized shape) old.li long ∙ rw (shape-lists shape)

    -- D is all pivots
    pub done-d : (tables_of n A (ran n A dsigns reg n) old).d ≡ over (ran n A dsigns reg n).d old.d
    unfolding tables_of
    done-d =
        let w = ran n A dsigns reg n in
        let e : n - length w.d ≡ 0 = omega (arith, (run_going n A upper dsigns reg n (omega arith) goes_on).pivots) in
        ap (λ (m : ℕ). over (w.d ++ replicate m +0) old.d) e ∙ ap (λ (l : List Float). over l old.d) (append-nil w.d)
