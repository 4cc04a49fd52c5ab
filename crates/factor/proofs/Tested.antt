-- What a factor's tables are that passed the test, and with it, of the parents as lent: where no pivot is zero, L's columns are those of
-- plain striking out (demand 3). Assumes nothing.
use Prim.Native.Nat.{ℕ, ◌+◌, ◌≤◌, ◌<◌}
use mathlib.Core.Path.{◌≡◌, refl, sym, ap}
use mathlib.Core.Bool.{true, false, not, false≢true}
use mathlib.Core.List.{List, [], ◌∷◌}
use borrow.Author.Tests.{eqb-true, eq-eqb, not-false}
use lib.Dec.{eqb}
use lib.IntN.{ℤ}
use lib.ListN.{length, get_or}
use lib.Seq.{slice}
use Rattle.desk.specs.Lists.{total, upto}
use Rattle.desk.proofs.Both.{both, neither, is_false}
use Rattle.csc.specs.Csc.{Csc, column, bad_pointers, not_upper}
use Rattle.tree.specs.Strike.{parents, counts, later, pointers_of_l}
use Rattle.pivot.specs.declared.Regularisation.{Regularisation}
use Rattle.factor.specs.Factor.{Tables, begun, run, tables_of, same, spoiled_factor}
use Rattle.factor.proofs.Runs.{graph}
use Rattle.factor.proofs.Done.{rows_so_far, done-rows}

pub same_true : (xs ys : List ℕ) → same xs ys ≡ true → xs ≡ ys
unfolding same
same_true [] [] h = refl
same_true [] (y ∷ ys) h = absurd (false≢true h)
same_true (x ∷ xs) [] h = absurd (false≢true h)
same_true (x ∷ xs) (y ∷ ys) h = let b = both (eqb x y) (same xs ys) h in cc (eqb-true x y b.0, same_true xs ys b.1)

pub same_refl : (xs : List ℕ) → same xs xs ≡ true
unfolding same
same_refl [] = refl
same_refl (x ∷ xs) = rw (eq-eqb x x refl) (same_refl xs)

-- what tells two lists apart
pub same_apart : {A : Type 0} (f : List ℕ → A) (xs ys : List ℕ) → (f xs ≡ f ys → ⊥) → false ≡ same xs ys
same_apart f xs ys h = sym (is_false (same xs ys) (λ e. h (ap f (same_true xs ys e))))

-- the four tests
pub record Passed (n m : ℕ) (A : Csc) (etree lnz : List ℕ) : Type 0 where
  pub pointers : bad_pointers m A.colptr ≡ false
  pub upper : not_upper n A.colptr A.rowval ≡ false
  pub tree : etree ≡ parents n (graph A)
  pub sizes : lnz ≡ counts n (graph A)

pub passed : (n m : ℕ) (A : Csc) (etree lnz : List ℕ) → spoiled_factor n m A etree lnz ≡ false → Passed n m A etree lnz
unfolding spoiled_factor
passed n m A etree lnz sound =
    let a = neither _ (not (same lnz (counts n (graph A)))) sound in
    let b = neither _ (not (same etree (parents n (graph A)))) a.0 in
    let d = neither (bad_pointers m A.colptr) (not_upper n A.colptr A.rowval) b.0 in
    record {
      pointers = d.0;
      upper = d.1;
      tree = same_true etree (parents n (graph A)) (not-false _ b.1);
      sizes = same_true lnz (counts n (graph A)) (not-false _ a.1);
    }

module _ {n m : ℕ} {A : Csc} {etree lnz : List ℕ} (p : Passed n m A etree lnz) (dsigns : List ℤ) (reg : Regularisation) (old : Tables) where
  -- after all rows column c lists the later rows that c is joined to when it goes
  pub factor-rows : (run n A etree dsigns reg (upto n) (begun n)).stopped ≡ false → total lnz ≤ length old.li → (c : ℕ) → c < n →
      column (tables_of n A (run n A etree dsigns reg (upto n) (begun n)) old).lp (tables_of n A (run n A etree dsigns reg (upto n) (begun n)) old).li c
      ≡ later n (graph A) c
  factor-rows = rw (p.tree, p.sizes) (done-rows n A p.upper dsigns reg old)

  -- and after the rows below t those below t, from its pointer on
  pub factor_rows_so_far : (t : ℕ) → t ≤ n → (run n A etree dsigns reg (upto t) (begun n)).stopped ≡ false → total lnz ≤ length old.li →
      (c : ℕ) → c < n →
      slice (get_or (pointers_of_l n (graph A)) c 0) (get_or (pointers_of_l n (graph A)) c 0 + length (later t (graph A) c))
      (tables_of n A (run n A etree dsigns reg (upto t) (begun n)) old).li
      ≡ later t (graph A) c
  factor_rows_so_far = rw (p.tree, p.sizes) (rows_so_far n A p.upper dsigns reg old)
