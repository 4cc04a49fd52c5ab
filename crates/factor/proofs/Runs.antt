-- Laws of the rows one after the other: the stop at a zero pivot, and what the lists and lengths are after the rows below t, or at the row
-- where it stopped. Assumes nothing.
use Prim.Native.Nat.{ℕ, zero, suc, ◌<◌, ◌≤◌}
use mathlib.Core.Path.{◌≡◌, refl, sym, ap, ◌∙◌}
use mathlib.Core.Bool.{Bool, true, false, cond, true≢false}
use mathlib.Core.Logic.{◌⊎◌, inl, inr, ⊎_elim}
use mathlib.Core.List.{List, [], ◌∷◌, ◌++◌}
use native.Mathlib.Decide.{dec_lt, le_ind}
use native.Mathlib.Omega.{arith}
use lib.IntN.{ℤ, pos}
use lib.Ieee.{Float, nan}
use lib.ListN.{length, get_or, length-append, get_or-append}
use lib.Seq.{get_or_at}
use Rattle.desk.specs.Lists.{from, upto}
use Rattle.csc.specs.Csc.{Csc, column, not_upper}
use Rattle.tree.specs.Strike.{entry, parents}
use Rattle.tree.proofs.Later.{later-none}
use Rattle.desk.proofs.Upto.{upto_more}
use Rattle.pivot.specs.declared.Regularisation.{Regularisation}
use Rattle.pivot.specs.Pivots.{is_zero}
use Rattle.row.specs.Row.{visits, row_of_matrix}
use Rattle.row.specs.Kernels.{Shape}
use Rattle.row.proofs.Shape.{shape_as, shape-none}
use Rattle.row.proofs.Along.{SameRow, eliminate_clear_all, started, row_same}
use Rattle.factor.specs.Factor.{Work, begun, row_at, pivoted, run}

-- the row of a matrix, row 0 apart
pub row_at-is : (n : ℕ) (A : Csc) (etree : List ℕ) (k : ℕ) (w : Work) → row_at n A etree k w ≡ row_of_matrix n A etree k w.dinv w.rows w.vals
unfolding row_at row_of_matrix
row_at-is n A etree zero w = refl
row_at-is n A etree (suc j) w = refl

-- ---- the run, whatever its rows

module _ (n : ℕ) (A : Csc) (etree : List ℕ) (dsigns : List ℤ) (reg : Regularisation) where
  -- one row of a run that has not stopped
  abbrev pub step : ℕ → Work → Work
  step k w = pivoted reg (get_or dsigns k (pos 0)) (row_at n A etree k w) w

  -- a run over two lists is the run over the second after the run over the first
  pub run_append : (xs ys : List ℕ) (w : Work) → run n A etree dsigns reg (xs ++ ys) w ≡ run n A etree dsigns reg ys (run n A etree dsigns reg xs w)
  unfolding run
  run_append [] ys w = refl
  run_append (x ∷ xs) ys w = run_append xs ys _

  -- the row t after the rows below t: one step where they did not stop, and nothing where they did
  module _ (t : ℕ) (w : Work) where
    run_more : (b : Bool) → (run n A etree dsigns reg (upto t) w).stopped ≡ b →
        run n A etree dsigns reg (upto (suc t)) w ≡ cond b (run n A etree dsigns reg (upto t) w) (step t (run n A etree dsigns reg (upto t) w))
    unfolding run
    run_more b e =
        ap (λ (ks : List ℕ). run n A etree dsigns reg ks w) (upto_more t)
        ∙ run_append (upto t) (t ∷ []) w
        ∙ ap (λ (b : Bool). cond b (run n A etree dsigns reg (upto t) w) (step t (run n A etree dsigns reg (upto t) w))) e

    pub run_step : (run n A etree dsigns reg (upto t) w).stopped ≡ false →
        run n A etree dsigns reg (upto (suc t)) w ≡ step t (run n A etree dsigns reg (upto t) w)
    run_step = run_more false

    pub run_stays : (run n A etree dsigns reg (upto t) w).stopped ≡ true → run n A etree dsigns reg (upto (suc t)) w ≡ run n A etree dsigns reg (upto t) w
    run_stays = run_more true

  -- a run that stopped among the rows below t is the whole run
  pub run-whole : (t m : ℕ) (w : Work) → t ≤ m → (run n A etree dsigns reg (upto t) w).stopped ≡ true →
      run n A etree dsigns reg (upto m) w ≡ run n A etree dsigns reg (upto t) w
  run-whole t m w h e =
      le_ind (λ m. run n A etree dsigns reg (upto m) w ≡ run n A etree dsigns reg (upto t) w) refl
      (λ m _ ih. run_stays m w (ap (λ (v : Work). v.stopped) ih ∙ e) ∙ ih) m h

-- ---- what it holds after the rows below t, and where it stopped at row k

pub record Going (n : ℕ) (g : ℕ → ℕ → Bool) (t : ℕ) (w : Work) : Type 0 where
  pub goes_on : w.stopped ≡ false
  pub shape : Shape g n (λ c. t) w.rows w.vals
  pub pivots : length w.d ≡ t
  pub reciprocals : length w.dinv ≡ t
  pub nonzero : (i : ℕ) → i < t → is_zero (get_or w.d i nan) ≡ false

pub record Halted (n : ℕ) (g : ℕ → ℕ → Bool) (k : ℕ) (w : Work) : Type 0 where
  pub halts : w.stopped ≡ true
  pub shape : Shape g n (λ c. suc k) w.rows w.vals
  pub pivots : length w.d ≡ suc k
  pub reciprocals : length w.dinv ≡ k
  pub nonzero : (i : ℕ) → i < k → is_zero (get_or w.d i nan) ≡ false
  pub zero_pivot : is_zero (get_or w.d k nan) ≡ true

-- after the rows below t it goes on, or it stopped at one of them
abbrev pub State : ℕ → (ℕ → ℕ → Bool) → ℕ → Work → Type 0
State n g t w = Going n g t w ⊎ ((k : ℕ) × (k < t) × Halted n g k w)

-- at the start no column lists anything
pub begun_going : (n : ℕ) (g : ℕ → ℕ → Bool) → Going n g 0 (begun n)
unfolding begun
begun_going n g = record {
  goes_on = refl;
  shape = shape-none g n (λ c. 0) (λ c h. omega arith);
  pivots = refl;
  reciprocals = refl;
  nonzero = λ i h. absurd (omega arith);
}

-- a list with one more at its end: what stands before it, and there
before : (l : List Float) (x : Float) (k i : ℕ) → length l ≡ k → i < k → is_zero (get_or (l ++ (x ∷ [])) i nan) ≡ is_zero (get_or l i nan)
before l x k i e h = ap (λ (y : Float). is_zero y) (get_or-append l (x ∷ []) nan i (omega arith))

last : (l : List Float) (x : Float) (k : ℕ) → length l ≡ k → is_zero (get_or (l ++ (x ∷ [])) k nan) ≡ is_zero x
last l x k e = ap (λ (y : Float). is_zero y) (get_or_at l x [] nan k e)

-- ---- the rows of an upper triangle, with its parents

abbrev pub graph : Csc → ℕ → ℕ → Bool
graph A = entry A.colptr A.rowval

-- the factor after the rows below t
abbrev pub ran : ℕ → Csc → List ℤ → Regularisation → ℕ → Work
ran n A dsigns reg t = run n A (parents n (graph A)) dsigns reg (upto t) (begun n)

module _ (n : ℕ) (A : Csc) (upper : not_upper n A.colptr A.rowval ≡ false) where
  -- the code's row is row k
  pub row-at : (k : ℕ) → 0 < k → k < n → (w : Work) → Shape (graph A) n (λ c. k) w.rows w.vals →
      SameRow (graph A) n k (row_at n A (parents n (graph A)) k w)
      (eliminate_clear_all k w.dinv (visits (parents n (graph A)) k (column A.colptr A.rowval k) [])
      (started n k (column A.colptr A.rowval k) (column A.colptr A.nzval k) w.rows w.vals))
  unfolding row_at
  row-at zero p h w s = absurd (omega arith)
  row-at (suc j) p h w s = row_same n A.colptr A.rowval upper (suc j) h w.dinv (column A.colptr A.nzval (suc j)) w.rows w.vals s

  -- after it L's columns have their rows up to k; row 0 visits nothing, and nothing lists it
  pub row_at-shape : (k : ℕ) → k < n → (w : Work) → Shape (graph A) n (λ c. k) w.rows w.vals →
      Shape (graph A) n (λ c. suc k) (row_at n A (parents n (graph A)) k w).rows (row_at n A (parents n (graph A)) k w).vals
  unfolding row_at
  row_at-shape zero h w s = shape_as s (λ c. 1) (λ c l. later-none (graph A) 0 c (omega arith) ∙ sym (later-none (graph A) 1 c (omega arith)))
  row_at-shape (suc j) h w s = (row-at (suc j) (omega arith) h w s).shape

  module _ (dsigns : List ℤ) (reg : Regularisation) where
    -- a row whose pivot is not zero, and one whose pivot is zero
    pub step_going : (k : ℕ) → k < n → (w : Work) → Going n (graph A) k w → (step n A (parents n (graph A)) dsigns reg k w).stopped ≡ false →
        Going n (graph A) (suc k) (step n A (parents n (graph A)) dsigns reg k w)
    unfolding pivoted
    step_going k h w G e = record {
      goes_on = e;
      shape = row_at-shape k h w G.shape;
      pivots = simp length-append (omega (arith, G.pivots));
      reciprocals = rw e (simp length-append (omega (arith, G.reciprocals)));
      nonzero = λ i l. elim (dec_lt i k) [
        | yes u ↦ before w.d _ k i G.pivots u ∙ G.nonzero i u
        | no ge ↦ let q : i ≡ k = omega arith in rw q (last w.d _ k G.pivots ∙ e)
      ];
    }

    pub step_halted : (k : ℕ) → k < n → (w : Work) → Going n (graph A) k w → (step n A (parents n (graph A)) dsigns reg k w).stopped ≡ true →
        Halted n (graph A) k (step n A (parents n (graph A)) dsigns reg k w)
    unfolding pivoted
    step_halted k h w G e = record {
      halts = e;
      shape = row_at-shape k h w G.shape;
      pivots = simp length-append (omega (arith, G.pivots));
      reciprocals = rw e G.reciprocals;
      nonzero = λ i u. before w.d _ k i G.pivots u ∙ G.nonzero i u;
      zero_pivot = last w.d _ k G.pivots ∙ e;
    }

    step_state : (t : ℕ) → t < n → (w : Work) → Going n (graph A) t w → (b : Bool) → (step n A (parents n (graph A)) dsigns reg t w).stopped ≡ b →
        State n (graph A) (suc t) (step n A (parents n (graph A)) dsigns reg t w)
    step_state t h w G false e = inl (step_going t h w G e)
    step_state t h w G true e = inr (t, omega arith, step_halted t h w G e)

    next : (t : ℕ) → t < n → State n (graph A) t (ran n A dsigns reg t) → State n (graph A) (suc t) (ran n A dsigns reg (suc t))
    next t h (inl G) =
        rw (run_step n A (parents n (graph A)) dsigns reg t (begun n) G.goes_on)
        (step_state t h (ran n A dsigns reg t) G (step n A (parents n (graph A)) dsigns reg t (ran n A dsigns reg t)).stopped refl)
    next t h (inr (k, l, H)) = rw (run_stays n A (parents n (graph A)) dsigns reg t (begun n) H.halts) (inr (k, omega arith, H))

    -- a run of the first t rows goes on, or stopped at one of them
    pub after : (t : ℕ) → t ≤ n → State n (graph A) t (ran n A dsigns reg t)
    unfolding from run
    after zero h = inl (begun_going n (graph A))
    after (suc t) h = next t h (after t (omega arith))

    -- not stopped after the rows below t; and stopped
    pub run_going : (t : ℕ) → t ≤ n → (ran n A dsigns reg t).stopped ≡ false → Going n (graph A) t (ran n A dsigns reg t)
    run_going t h e = ⊎_elim (λ G. G) (λ (k, l, H). absurd (true≢false (sym H.halts ∙ e))) (after t h)

    pub run_halted : (t : ℕ) → t ≤ n → (ran n A dsigns reg t).stopped ≡ true → (k : ℕ) × (k < t) × Halted n (graph A) k (ran n A dsigns reg t)
    run_halted t h e = ⊎_elim (λ G. absurd (true≢false (sym e ∙ G.goes_on))) (λ H. H) (after t h)
