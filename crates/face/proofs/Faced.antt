-- The promise of the face from that of the call: too few words are refused, and else the words and numbers say the answer.
-- Assumes nothing.
use Prim.Native.Nat.{ℕ, ◌≤◌, ◌<◌}
use mathlib.Core.Path.{◌≡◌, refl, ap, sym, ◌∙◌}
use mathlib.Core.List.{List}
use borrow.Author.Tests.{lt-ltb, le-ltb}
use lib.ListN.{length, get_or}
use Rattle.analysis.specs.Analysis.{Written, AnalysisLent}
use Rattle.qdldl.specs.declared.Status.{Status}
use Rattle.qdldl.specs.Calls.{Answer, Settles, answer_number, answer_values}
use Rattle.qdldl.specs.Analysing.{analysis}
use Rattle.face.specs.Face.{status_of, faced, words_after, Faces}

module _ (ws : List ℕ) (l : AnalysisLent) where
  pub too_few : length ws < 6 → (number : ℕ) → number ≡ 4 → Faces (faced ws l) number 0 ws ws l.out
  unfolding faced
  too_few h number e = rw (lt-ltb (length ws) 6 h) (record { answered = e; valued = refl; words = refl; tables = refl })

  pub told : 6 ≤ length ws → (s : Status) → s ≡ status_of ws → (a : Answer) (t : Written) → Settles (analysis s l) a t → (b : Answer) → a ≡ b →
      (number : ℕ) → number ≡ answer_number b → (value : ℕ) → value ≡ get_or (answer_values b) 0 0 → (after : List ℕ) → after ≡ words_after b ws → Faces (faced ws l) number value ws after t
  unfolding faced
  told h s e a t k b d number p value q after w =
      let same = sym d ∙ (rw e at k.reply) in
      rw (le-ltb (length ws) 6 h) (record {
        answered = p ∙ ap answer_number same;
        valued = q ∙ ap (λ (v : Answer). get_or (answer_values v) 0 0) same;
        words = w ∙ ap (λ (v : Answer). words_after v ws) same;
        tables = rw e at k.lists;
      })
