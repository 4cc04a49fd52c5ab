-- What the analysis answers: a refusal of its verdict, or the status of the tables computed. Assumes nothing.
use Prim.Native.Nat.{ℕ}
use mathlib.Core.Path.{◌≡◌, refl, ap}
use mathlib.Core.List.{List, [], ◌∷◌}
use lib.IntN.{ℤ}
use lib.ListN.{length}
use Rattle.desk.specs.Desk.{Verdict, first}
use Rattle.std.specs.Prelude.{Result, Ok, Err}
use Rattle.std.specs.Result.{is_ok}
use mathlib.Core.Bool.{true≢false}
use Rattle.qdldl.specs.declared.Refused.{Refused}
use Rattle.csc.specs.Csc.{Csc}
use Rattle.analysis.specs.Analysis.{Written, analysis_lent, analysis_refusals, analysed_tables}
use Rattle.analysis.specs.Steps.{Computed}
use Rattle.analysis.proofs.Accepted.{lengths}
use Rattle.qdldl.specs.declared.Phase.TheVariants.{Analysed}
use Rattle.qdldl.specs.declared.Status.{Status}
use Rattle.qdldl.specs.Calls.{Settles, settled, status}
use Rattle.qdldl.specs.Analysing.{analysis}

-- where the answer is no refusal, the verdict was none
pub ok_alike : (r : Verdict) (v : Result (Unit {0}) Refused) (x : Unit {0}) → v ≡ Ok x → is_ok v ≡ is_ok r → ◌≡◌ {A = Verdict} (Ok tt) r
ok_alike (Ok tt) v x e h = refl
ok_alike (Err r) v x e h = absurd (true≢false (rw e at h))

pub done : (nrows n : ℕ) (A : Csc) (perm : List ℕ) (signs : List ℤ) (out : Written) (a b c : List ℕ)
    (ok : Ok tt ≡ first (analysis_refusals (analysis_lent nrows n A perm signs out (a ∷ b ∷ c ∷ [])))) (s : Status) (written : Written) (r : ℕ) → Computed A perm signs out written r →
    Settles (analysis s (analysis_lent nrows n A perm signs out (a ∷ b ∷ c ∷ []))) (Ok (status Analysed n (length A.rowval) r 0 0)) written
unfolding analysis settled analysed_tables
done nrows n A perm signs out a b c ok s written r k =
    let m = lengths nrows n A perm signs out a b c ok in
    rw (← ok) (record {
      reply = ap (λ (v : ℕ). Ok (status Analysed n (length A.rowval) v 0 0)) (rw m.ordering at k.sum);
      lists = rw m.ordering at k.tables;
    })
