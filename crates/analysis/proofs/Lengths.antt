-- What the lists lent to the analysis measure where no length is bad. Assumes nothing.
use Prim.Native.Nat.{ℕ, ◌+◌, ◌≤◌}
use mathlib.Core.Path.{◌≡◌}
use mathlib.Core.Bool.{false, ◌&&◌, ◌||◌}
use mathlib.Core.Logic.{◌⊎◌, inl, inr, ⊎_elim}
use mathlib.Core.List.{List, [], ◌∷◌}
use lib.IntN.{ℤ}
use lib.ListN.{length}
use Rattle.desk.specs.Lists.{isnt, short}
use Rattle.desk.proofs.Both.{neither, not_both, is_long, has_room}
use Rattle.csc.specs.Csc.{Csc}
use Rattle.analysis.specs.Analysis.{Written, analysis_lent, bad_lengths}

pub record Lengths (n : ℕ) (A : Csc) (perm : List ℕ) (signs : List ℤ) (out : Written) (a b c : List ℕ) : Type 0 where
  pub pointers : length A.colptr ≡ n + 1
  pub values : length A.nzval ≡ length A.rowval
  pub ordering : length perm ≡ n
  pub signed : (length signs ≡ 0) ⊎ (length signs ≡ n)
  pub room_pointers : n + 1 ≤ length out.P.colptr
  pub room_rows : length A.rowval ≤ length out.P.rowval
  pub room_values : length A.rowval ≤ length out.P.nzval
  pub room_map : length A.rowval ≤ length out.map
  pub room_parents : n ≤ length out.etree
  pub room_counts : n ≤ length out.lnz
  pub room_signs : n ≤ length out.dsigns
  pub room_first : n ≤ length a
  pub room_second : n ≤ length b
  pub room_third : n ≤ length c

pub good_lengths : (nrows n : ℕ) (A : Csc) (perm : List ℕ) (signs : List ℤ) (out : Written) (a b c : List ℕ) →
    bad_lengths (analysis_lent nrows n A perm signs out (a ∷ b ∷ c ∷ [])) ≡ false → Lengths n A perm signs out a b c
unfolding bad_lengths
good_lengths nrows n A perm signs out a b c e =
    let m = length A.rowval in
    let t0 = isnt (n + 1) A.colptr in
    let t1 = t0 || isnt m A.nzval in
    let t2 = t1 || isnt n perm in
    let t3 = t2 || isnt 0 signs && isnt n signs in
    let t4 = t3 || short (n + 1) out.P.colptr in
    let t5 = t4 || short m out.P.rowval in
    let t6 = t5 || short m out.P.nzval in
    let t7 = t6 || short m out.map in
    let t8 = t7 || short n out.etree in
    let t9 = t8 || short n out.lnz in
    let t10 = t9 || short n out.dsigns in
    let e11 = neither t10 (short n a || (short n b || (short n c || false))) e in
    let e10 = neither t9 (short n out.dsigns) e11.0 in
    let e9 = neither t8 (short n out.lnz) e10.0 in
    let e8 = neither t7 (short n out.etree) e9.0 in
    let e7 = neither t6 (short m out.map) e8.0 in
    let e6 = neither t5 (short m out.P.nzval) e7.0 in
    let e5 = neither t4 (short m out.P.rowval) e6.0 in
    let e4 = neither t3 (short (n + 1) out.P.colptr) e5.0 in
    let e3 = neither t2 (isnt 0 signs && isnt n signs) e4.0 in
    let e2 = neither t1 (isnt n perm) e3.0 in
    let e1 = neither t0 (isnt m A.nzval) e2.0 in
    let s1 = neither (short n a) (short n b || (short n c || false)) e11.1 in
    let s2 = neither (short n b) (short n c || false) s1.1 in
    let s3 = neither (short n c) false s2.1 in
    record {
      pointers = is_long (n + 1) A.colptr e1.0;
      values = is_long m A.nzval e1.1;
      ordering = is_long n perm e2.1;
      signed = ⊎_elim (λ h. inl (is_long 0 signs h)) (λ h. inr (is_long n signs h)) (not_both (isnt 0 signs) (isnt n signs) e3.1);
      room_pointers = has_room (n + 1) out.P.colptr e4.1;
      room_rows = has_room m out.P.rowval e5.1;
      room_values = has_room m out.P.nzval e6.1;
      room_map = has_room m out.map e7.1;
      room_parents = has_room n out.etree e8.1;
      room_counts = has_room n out.lnz e9.1;
      room_signs = has_room n out.dsigns e10.1;
      room_first = has_room n a s1.0;
      room_second = has_room n b s2.0;
      room_third = has_room n c s3.0;
    }
