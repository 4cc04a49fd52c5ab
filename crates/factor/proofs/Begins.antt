-- What a factor begins with: tables that passed the test, L's pointers and the free places; that all of them fit their types within the
-- limits; and what the parts that its rows are lent make of the whole tables. Assumes nothing.
use Prim.Native.Nat.{ℕ, ◌+◌, ◌-◌, ◌^◌, ◌<◌, ◌≤◌}
use mathlib.Core.Path.{◌≡◌, sym, ap, ◌∙◌}
use mathlib.Core.List.{List, ◌++◌, append_assoc}
use native.Mathlib.Nat.{add-zero}
use native.Mathlib.Omega.{arith}
use lib.IntN.{ℤ}
use lib.Ieee.{Float}
use lib.ListN.{length, get_or, take, drop, replicate, length-replicate, take-append-drop}
use lib.Seq.{length-take-le, get_or-take, take_all, take-append-le, drop-append-le, drop-append_seam}
use Rattle.std.specs.Prelude.{Result}
use Rattle.desk.specs.Lists.{sums, over}
use Rattle.desk.proofs.Over.{take-written}
use Rattle.csc.specs.Csc.{Csc}
use Rattle.tree.specs.Strike.{pointers_of_l}
use Rattle.tree.proofs.Later.{length-counts, later-none}
use Rattle.tree.proofs.Strikes.{counts_fit}
use Rattle.pivot.specs.declared.Regularisation.{Regularisation}
use Rattle.pivot.specs.Pivots.{+0}
use Rattle.row.specs.declared.Progress.{Progress}
use Rattle.row.specs.declared.ZeroPivot.{ZeroPivot}
use Rattle.row.specs.Kernels.{Free}
use Rattle.row.proofs.Laid.{laid_nothing}
use Rattle.row.proofs.OfL.{over-long, length-pointers, pointer_most}
use Rattle.row.proofs.Shape.{shape-none}
use Rattle.factor.specs.Factor.{Work, Tables, begun, tables_of}
use Rattle.factor.specs.Steps.{whole, Runnable, Ran, tables, Prepared, Signed, Factored}
use Rattle.factor.proofs.Runs.{graph}
use Rattle.factor.proofs.Tested.{Passed, passed}

-- ---- a front and what lies past it

module _ {A : Type 0} where
  -- a table whose front is written, of which a part is lent: the part's front is written
  pub part_front : (new old : List A) (n : ℕ) → n ≤ length new → take n (over new old) ≡ take n new
  unfolding over
  part_front new old n h = take-append-le n new (drop (length new) old) h

  -- and the whole is the part's new list before what lay past it
  pub over_part : (new old : List A) (n : ℕ) → length new ≤ n → n ≤ length old → over new (take n old) ++ drop n old ≡ over new old
  unfolding over
  over_part new old n h l =
      append_assoc new (drop (length new) (take n old)) (drop n old)
      ∙ ap (λ (x : List A). new ++ x)
      (sym (drop-append-le (length new) (take n old) (drop n old) (omega (arith, length-take-le n old l))) ∙ ap (drop (length new)) (take-append-drop n old))

  pub over_whole_part : (new mid old : List A) (n : ℕ) → length new ≡ n → length mid ≡ n → new ++ drop n (over mid old) ≡ over new old
  unfolding over
  over_whole_part new mid old n e f = rw (e, ← f, drop-append_seam mid (drop (length mid) old))

  -- a front that was filled with one value
  pub filled_front : (n : ℕ) (v : A) (old new : List A) → new ≡ over (replicate n v) old → take n new ≡ replicate n v
  filled_front n v old new e = take-written n (replicate n v) old new e (length-replicate n v)

-- ---- what passed the test

module _ (A : Csc) (etree lnz : List ℕ) (t : Tables) (next order marks : List ℕ) (b : Prepared A etree lnz t next order marks) where
  pub tested : Passed (length etree) (length A.rowval) A etree lnz
  tested = passed (length etree) (length A.rowval) A etree lnz b.sound

  pub lnz-long : length lnz ≡ length etree
  lnz-long = ap length tested.sizes ∙ length-counts (graph A) (length etree)

  pub pointers_are : sums 0 (take (length etree) lnz) ≡ pointers_of_l (length etree) (graph A)
  unfolding pointers_of_l
  pointers_are = rw (take_all (length etree) lnz (omega (arith, lnz-long)), ← tested.sizes)

  pub pointers_fit : (c : ℕ) → c ≤ length etree → get_or (sums 0 (take (length etree) lnz)) c 0 < 2 ^ 32
  pointers_fit c h = rw pointers_are (omega (arith, pointer_most (length etree) (graph A) c h, counts_fit (length etree) (graph A) b.small))

  -- what the pointers and the free places are once they are written
  module _ (lp' next' : List ℕ) (ep : lp' ≡ over (sums 0 (take (length etree) lnz)) t.lp) (en : next' ≡ over (take (length etree) lp') next) where
    pub pointers-written : lp' ≡ over (pointers_of_l (length etree) (graph A)) t.lp
    pointers-written = rw pointers_are at ep

    pub places-written : take (length etree) next' ≡ take (length etree) (pointers_of_l (length etree) (graph A))
    places-written =
        let n = length etree in
        let P = pointers_of_l n (graph A) in
        let few : take n lp' ≡ take n P = rw pointers-written (part_front P t.lp n (omega (arith, length-pointers n (graph A)))) in
        take-written n (take n P) next next' (rw few at en) (length-take-le n P (omega (arith, length-pointers n (graph A))))

  -- the first n pointers are the free places before the first row
  pub starts-free : (next : List ℕ) → next ≡ take (length etree) (pointers_of_l (length etree) (graph A)) → Free (graph A) (length etree) (λ c. 0) next
  starts-free next e = record {
    fits = counts_fit (length etree) (graph A) b.small;
    places = ap length e ∙ length-take-le (length etree) (pointers_of_l (length etree) (graph A)) (omega (arith, length-pointers (length etree) (graph A)));
    place = λ c h.
        rw (e, later-none (graph A) 0 c (omega arith))
        (get_or-take (length etree) (pointers_of_l (length etree) (graph A)) c 0 h ∙ sym (add-zero (get_or (pointers_of_l (length etree) (graph A)) c 0)));
  }

  -- ---- the numeric factor: what its rows are lent, and what they make of the tables

  module _ (dsigns : List ℤ) (y : List Float) (s : Signed (length etree) dsigns y) (lp' next' marks' : List ℕ) (d' y' : List Float)
      (ep : lp' ≡ over (sums 0 (take (length etree) lnz)) t.lp) (en : next' ≡ over (take (length etree) lp') next)
      (em : marks' ≡ over (replicate (length etree) 0) marks) (ed : d' ≡ over (replicate (length etree) +0) t.d) (ey : y' ≡ over (replicate (length etree) +0) y) where
    abbrev n : ℕ
    n = length etree

    abbrev P : List ℕ
    P = pointers_of_l n (graph A)

    pointers : take (n + 1) lp' ≡ P
    pointers =
        rw (pointers-written lp' next' ep en)
        (part_front P t.lp (n + 1) (omega (arith, length-pointers n (graph A))) ∙ take_all (n + 1) P (omega (arith, length-pointers n (graph A))))

    long : length (take n y') ≡ n
    long = ap length (filled_front n +0 y y' ey) ∙ length-replicate n +0

    pub numeric_runnable : Runnable A etree dsigns (take (n + 1) lp') t.li (take n next') (take n marks') (take n order) t.lx (take n d') (take n t.dinv) (take n y')
    unfolding begun
    numeric_runnable =
        let T = tested in
        record {
          ready = record {
            small = rw long (omega (arith, b.small));
            below = rw long b.least;
            counted = record { inertia = omega arith; shifts = omega arith };
            pointers = rw long b.pointers;
            steady = T.pointers;
            values = b.values;
            some = omega (arith, b.some, b.values);
            upper = rw long T.upper;
            tree = rw long T.tree;
            signs = rw long s.signs;
            pivots = rw (filled_front n +0 t.d d' ed, length-replicate) (sym long);
            reciprocals = length-take-le n t.dinv b.room_reciprocals ∙ sym long;
            held = rw long (record {
              pointers = pointers;
              free = starts-free (take n next') (places-written lp' next' ep en);
              room_rows = rw (← T.sizes) b.room_rows;
              room_values = rw (← T.sizes) b.room_values;
              shape = shape-none (graph A) n (λ c. 0) (λ c h. omega arith);
              rows_laid = sym (laid_nothing P n t.li);
              values_laid = sym (laid_nothing P n t.lx);
            });
            room = length-take-le n order b.room_order ∙ sym long;
            unmarked = rw long (filled_front n 0 marks marks' em);
            cleared = rw long (filled_front n +0 y y' ey);
          };
          zeros = rw long (filled_front n +0 t.d d' ed);
        }

    module _ (reg : Regularisation) (li' : List ℕ) (lx' d'' dinv' : List Float) (r : Result Progress ZeroPivot)
        (x : Ran (length (take n y')) A (whole (length (take n y')) A etree dsigns reg) t.li li' t.lx lx' d'' (take n t.dinv) dinv' r)
        (sd : length d'' ≡ length (take n d')) (sv : length dinv' ≡ length (take n t.dinv)) where
      abbrev w : Work
      w = whole n A etree dsigns reg

      ran : Ran n A w t.li li' t.lx lx' d'' (take n t.dinv) dinv' r
      ran = rw long at x

      pivots_are : d'' ++ drop n d' ≡ over (w.d ++ replicate (n - length w.d) +0) t.d
      pivots_are =
          rw (ed) (over_whole_part d'' (replicate n +0) t.d n (sd ∙ ap length (filled_front n +0 t.d d' ed) ∙ length-replicate n +0) (length-replicate n +0))
          ∙ ap (λ (l : List Float). over l t.d) ran.pivots

      reciprocals_are : dinv' ++ drop n t.dinv ≡ over w.dinv t.dinv
      reciprocals_are =
          let few : length w.dinv ≤ n =
          omega (arith, over-long w.dinv (take n t.dinv), ap length ran.reciprocals, sv, length-take-le n t.dinv b.room_reciprocals) in
          ap (λ (l : List Float). l ++ drop n t.dinv) ran.reciprocals ∙ over_part w.dinv t.dinv n few b.room_reciprocals

      pub numeric-done : Factored n A w t (tables lp' li' lx' (d'' ++ drop n d') (dinv' ++ drop n t.dinv)) r
      unfolding tables_of
      numeric-done = record { answer = ran.answer; written = rw (pointers-written lp' next' ep en, ran.rows, ran.values, pivots_are, reciprocals_are) }
