-- One y for all rows: the code sets y[c] to +0 when column c is done, and the definition starts each row from zeros and clears nothing.
-- What the code's y holds between two columns, at the start of a row and at its end. Assumes nothing.
use Prim.Native.Nat.{ℕ, suc, ◌<◌}
use mathlib.Core.Path.{◌≡◌, refl, sym, ap, ◌∙◌}
use mathlib.Core.Bool.{Bool, true, false, cond}
use mathlib.Core.Logic.{◌⊎◌, inl, inr, ⊎_elim}
use mathlib.Core.List.{List, [], ◌∷◌}
use native.Mathlib.Omega.{arith}
use native.Mathlib.Decide.{ℕ_discrete}
use borrow.Author.Tests.{eq-eqb, ne_eqb}
use lib.Dec.{eqb}
use lib.Ieee.{Float, nan}
use lib.ListN.{length, get_or, set, replicate, length-set, length-replicate, get_or-replicate}
use lib.Seq.{get_or-set_same, get_or-set_other, ext_get_or}
use Rattle.pivot.specs.Pivots.{◌⊖◌, ◌⊗◌, +0}
use Rattle.row.specs.Row.{spread, scattered}
use Rattle.row.specs.Kernels.{In, Out}
use Rattle.row.proofs.Members.{out_none, in_later, out_both, in_not}

-- ---- lengths, and places that are not touched

pub length-scattered : (rows : List ℕ) (vals : List Float) (v : Float) (y : List Float) → length (scattered rows vals v y) ≡ length y
unfolding scattered
length-scattered [] vals v y = refl
length-scattered (r ∷ rows) [] v y = refl
length-scattered (r ∷ rows) (l ∷ vals) v y = length-scattered rows vals v (set y r (get_or y r nan ⊖ l ⊗ v)) ∙ simp length-set

kept-length : (b : Bool) (y : List Float) (r : ℕ) (v : Float) → length (cond b y (set y r v)) ≡ length y
kept-length true y r v = refl
kept-length false y r v = length-set y r v

pub length-spread : (k : ℕ) (rows : List ℕ) (vals y : List Float) → length (spread k rows vals y) ≡ length y
unfolding spread
length-spread k [] vals y = refl
length-spread k (r ∷ rows) [] y = refl
length-spread k (r ∷ rows) (v ∷ vals) y = length-spread k rows vals (cond (eqb r k) y (set y r v)) ∙ kept-length (eqb r k) y r v

-- an entry that is the diagonal's, or stands elsewhere, leaves place i
pub spread_other : (k : ℕ) (rows : List ℕ) (vals y : List Float) (i : ℕ) (d : Float) →
    ((q : ℕ) → q < length rows → (get_or rows q 0 ≡ k) ⊎ (i ≡ get_or rows q 0 → ⊥)) → get_or (spread k rows vals y) i d ≡ get_or y i d
unfolding spread
spread_other k [] vals y i d h = refl
spread_other k (r ∷ rows) [] y i d h = refl
spread_other k (r ∷ rows) (v ∷ vals) y i d h =
    spread_other k rows vals (cond (eqb r k) y (set y r v)) i d (λ q l. h (suc q) (omega arith))
    ∙ elim (ℕ_discrete r k) [
      | yes e ↦ rw (eq-eqb r k e)
      | no ne ↦ rw (ne_eqb r k ne) (get_or-set_other y r i v d (⊎_elim (λ e. absurd (ne e)) (λ o. o) (h 0 (omega arith))))
    ]

-- ---- between two columns

-- where `rest` is still to come, z, of the code, holds y's number, of the definition, at each place of `rest`, and +0 at all others
pub record Cleared (n : ℕ) (rest : List ℕ) (y z : List Float) : Type 0 where
  pub long : length y ≡ n
  pub size : length z ≡ n
  pub same : (i : ℕ) → In i rest → get_or z i nan ≡ get_or y i nan
  pub clear : (i : ℕ) → i < n → Out i rest → get_or z i nan ≡ +0

-- before the first column: all zeros, and the entries at places that are to come
pub cleared-start : (n k : ℕ) (rows : List ℕ) (vals : List Float) (rest : List ℕ) →
    ((q : ℕ) → q < length rows → (get_or rows q 0 ≡ k) ⊎ In (get_or rows q 0) rest) →
    Cleared n rest (spread k rows vals (replicate n +0)) (spread k rows vals (replicate n +0))
cleared-start n k rows vals rest h = record {
  long = length-spread k rows vals (replicate n +0) ∙ length-replicate n +0;
  size = length-spread k rows vals (replicate n +0) ∙ length-replicate n +0;
  same = λ i m. refl;
  clear = λ i l o.
      spread_other k rows vals (replicate n +0) i nan (λ q b.
      ⊎_elim (λ e. inl e) (λ m. inr (λ e. in_not (get_or rows q 0) i rest m o (sym e))) (h q b))
      ∙ get_or-replicate n i +0 nan l;
}

-- after the last: all zeros
pub cleared_end : (n : ℕ) (y z : List Float) → Cleared n [] y z → z ≡ replicate n +0
cleared_end n y z c =
    ext_get_or nan z (replicate n +0) (c.size ∙ sym (length-replicate n +0)) (λ i h.
    let l : i < n = omega (arith, c.size) in
    c.clear i l (out_none i) ∙ sym (get_or-replicate n i +0 nan l))

module _ (n : ℕ) where
  -- the same number is put at a place that is still to come
  pub cleared-set : (rest : List ℕ) (y z : List Float) → Cleared n rest y z → (r : ℕ) → In r rest → r < n → (a b : Float) → b ≡ a →
      Cleared n rest (set y r a) (set z r b)
  cleared-set rest y z c r m h a b e = record {
    long = length-set y r a ∙ c.long;
    size = length-set z r b ∙ c.size;
    same = λ i t. elim (ℕ_discrete i r) [
      | yes q ↦ rw q (get_or-set_same z r b nan (omega (arith, c.size)) ∙ e ∙ sym (get_or-set_same y r a nan (omega (arith, c.long))))
      | no ne ↦ get_or-set_other z r i b nan ne ∙ c.same i t ∙ sym (get_or-set_other y r i a nan ne)
    ];
    clear = λ i l o. get_or-set_other z r i b nan (λ q. in_not r i rest m o (sym q)) ∙ c.clear i l o;
  }

  -- a column is scattered over places that are still to come
  pub cleared_scatter : (rest rows : List ℕ) (vals : List Float) (v : Float) (y z : List Float) → Cleared n rest y z →
      ((q : ℕ) → q < length rows → In (get_or rows q 0) rest × (get_or rows q 0 < n)) →
      Cleared n rest (scattered rows vals v y) (scattered rows vals v z)
  unfolding scattered
  cleared_scatter rest [] vals v y z c h = c
  cleared_scatter rest (r ∷ rows) [] v y z c h = c
  cleared_scatter rest (r ∷ rows) (l ∷ vals) v y z c h =
      let (m, b) = h 0 (omega arith) in
      cleared_scatter rest rows vals v (set y r (get_or y r nan ⊖ l ⊗ v)) (set z r (get_or z r nan ⊖ l ⊗ v))
      (cleared-set rest y z c r m b (get_or y r nan ⊖ l ⊗ v) (get_or z r nan ⊖ l ⊗ v) (ap (λ (x : Float). x ⊖ l ⊗ v) (c.same r m)))
      (λ q b. h (suc q) (omega arith))

  -- and its own place is cleared
  pub cleared_zero : (x : ℕ) (rest : List ℕ) (y z : List Float) → Cleared n (x ∷ rest) y z → Out x rest → x < n → Cleared n rest y (set z x +0)
  cleared_zero x rest y z c o h = record {
    long = c.long;
    size = length-set z x +0 ∙ c.size;
    same = λ i m. get_or-set_other z x i +0 nan (in_not i x rest m o) ∙ c.same i (in_later i x rest m);
    clear = λ i l u. elim (ℕ_discrete i x) [
      | yes e ↦ rw e (get_or-set_same z x +0 nan (omega (arith, c.size)))
      | no ne ↦ get_or-set_other z x i +0 nan ne ∙ c.clear i l (out_both i x rest ne u)
    ];
  }
