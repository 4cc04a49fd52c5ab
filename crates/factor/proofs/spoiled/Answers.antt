-- `factor::spoiled` meets its contract: the four tests in the order of the definition, the last two against the tree that is struck out in
-- scratch. Assumes nothing.
use Prim.Native.Nat.{ℕ}
use mathlib.Core.Path.{◌≡◌, sym, ap, ◌∙◌}
use mathlib.Core.Bool.{Bool, true, false, not}
use mathlib.Core.List.{List}
use borrow.Author.Rules.{rules}
use lib.ListN.{length, take}
use Rattle.desk.proofs.Over.{take-written}
use Rattle.csc.specs.Csc.{Csc, bad_pointers, not_upper}
use Rattle.tree.specs.Strike.{parents}
use Rattle.tree.specs.Tree.{Treed}
use Rattle.tree.proofs.Later.{length-parents, length-counts}
use Rattle.factor.specs.Factor.{same, spoiled_factor}
use Rattle.factor.proofs.Runs.{graph}
use Rattle.factor.proofs.spoiled.Goals as goal
use Rattle.factor.proofs.spoiled.Goals.{Else-bad_pointers, Else-not_upper_triangular, then-bad_pointers-via-then-bad_pointers, then-bad_pointers-via-else-bad_pointers+then-not_upper_triangular}

module _ (n m : ℕ) (A : Csc) (etree lnz : List ℕ) where
  by-pointers : bad_pointers m A.colptr ≡ true → true ≡ spoiled_factor n m A etree lnz
  unfolding spoiled_factor
  by-pointers e = rw e

  module _ (sound : bad_pointers m A.colptr ≡ false) where
    by_rows : not_upper n A.colptr A.rowval ≡ true → true ≡ spoiled_factor n m A etree lnz
    unfolding spoiled_factor
    by_rows e = rw (sound, e)

    -- t is whether the parents are those of the tree
    module _ (above : not_upper n A.colptr A.rowval ≡ false) {l₀ l p₀ p : List ℕ} (S : Treed n A.colptr A.rowval l₀ l p₀ p) {t : Bool} (asked : t ≡ same etree (take n p)) where
      parents_asked : t ≡ same etree (parents n (graph A))
      parents_asked = rw (take-written n _ _ _ S.struck_parents (length-parents (graph A) n)) at asked

      by-parents : t ≡ false → not t ≡ spoiled_factor n m A etree lnz
      unfolding spoiled_factor
      by-parents e = rw (sound, above, ← parents_asked, e)

      by-counts : t ≡ true → {u : Bool} → u ≡ same lnz (take n l) → not u ≡ spoiled_factor n m A etree lnz
      unfolding spoiled_factor
      by-counts e h =
          rw (sound, above, ← parents_asked, e) (ap not (rw (take-written n _ _ _ S.struck_counts (length-counts (graph A) n)) at h))

steady : (c : Else-bad_pointers) → bad_pointers (length c.args.a.now.rowval.now) c.args.a.now.colptr.now ≡ false
steady c = sym c.bad_pointers.ensures ∙ c.if-bad_pointers.false

upper : (c : Else-not_upper_triangular) → not_upper c.args.n c.args.a.now.colptr.now c.args.a.now.rowval.now ≡ false
upper c = sym c.not_upper_triangular.ensures ∙ c.if-not_upper_triangular.false

pub returns-then-bad_pointers : goal.returns-then-bad_pointers
returns-then-bad_pointers c =
    elim c.then-bad_pointers.branch [
      | then-bad_pointers-via-then-bad_pointers w ↦ by-pointers _ _ _ _ _ (sym c.bad_pointers.ensures ∙ w.if-bad_pointers.true)
      | then-bad_pointers-via-else-bad_pointers+then-not_upper_triangular w ↦
          by_rows _ _ _ _ _ (sym c.bad_pointers.ensures ∙ w.if-bad_pointers.false) (sym w.not_upper_triangular.ensures ∙ w.if-not_upper_triangular.true)
    ]

pub etree-requires : goal.etree-requires
etree-requires c =
    search (rules, steady (goal.at.etree-requires c).Else-bad_pointers, upper (goal.at.etree-requires c).Else-not_upper_triangular)

pub returns-then-not-same : goal.returns-then-not-same
returns-then-not-same c =
    by-parents _ _ _ _ _ (steady (goal.at.returns-then-not-same c).Else-bad_pointers) (upper (goal.at.returns-then-not-same c).Else-not_upper_triangular) c.etree.ensures c.same.ensures c.if-not-same.true

pub returns-else-not-same : goal.returns-else-not-same
returns-else-not-same c =
    by-counts _ _ _ _ _ (steady (goal.at.returns-else-not-same c).Else-bad_pointers) (upper (goal.at.returns-else-not-same c).Else-not_upper_triangular) c.etree.ensures c.same.ensures c.if-not-same.false c.same-else-not-same.ensures
