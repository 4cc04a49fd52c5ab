-- The C face: what each lent word means, and what the analysis leaves in the words. Assumes nothing.
use Rattle.std.specs.Prelude.{ℕ, ◌≡◌, cond, List, [], ◌∷◌, Ok, Err, ltb, eqb, length, get_or}
use Rattle.desk.specs.Lists.{over}
use Rattle.desk.specs.declared.Refusal.TheVariants.{BadLength}
use Rattle.analysis.specs.Analysis.{Written, AnalysisLent}
use Rattle.qdldl.specs.declared.Phase.{Phase}
use Rattle.qdldl.specs.declared.Phase.TheVariants.{Empty, Analysed, Logical, Numeric, Failed}
use Rattle.qdldl.specs.declared.Status.{Status}
use Rattle.qdldl.specs.Calls.{Answer, refuse, Outcome, outcome, status, answer_number, answer_values}
use Rattle.qdldl.specs.Analysing.{analysis}

-- the phase as a word: 0 Empty, 1 Analysed, 2 Logical, 3 Numeric, 4 Failed; any other word is read as Empty
abbrev pub word_of : Phase → ℕ
word_of Empty = 0
word_of Analysed = 1
word_of Logical = 2
word_of Numeric = 3
word_of Failed = 4

unfoldable pub phase_of : ℕ → Phase
phase_of w = cond (eqb w 1) Analysed (cond (eqb w 2) Logical (cond (eqb w 3) Numeric (cond (eqb w 4) Failed Empty)))

-- the status as six words: phase, n, m, the length of L, inertia, shifts
unfoldable pub status_of : List ℕ → Status
status_of ws = status (phase_of (get_or ws 0 0)) (get_or ws 1 0) (get_or ws 2 0) (get_or ws 3 0) (get_or ws 4 0) (get_or ws 5 0)

unfoldable pub words_of : Status → List ℕ
words_of s = word_of s.phase ∷ s.n ∷ s.m ∷ s.nnzl ∷ s.inertia ∷ s.shifts ∷ []

-- fewer than six words are refused 4; else the analysis from the status that they say
unfoldable pub faced : List ℕ → AnalysisLent → Outcome Written
faced ws l = cond (ltb (length ws) 6) (outcome (Err (refuse BadLength (status_of ws))) l.out) (analysis (status_of ws) l)

-- the words afterwards: the next status where the call is done, and kept where it is refused
abbrev pub words_after : Answer → List ℕ → List ℕ
words_after (Ok s) ws = over (words_of s) ws
words_after (Err e) ws = ws

-- the promise of the face: the number, the word for a refusal's value (0 where it has none), the status words, and the tables
pub record Faces (o : Outcome Written) (number value : ℕ) (ws₀ ws : List ℕ) (t : Written) : Type 0 where
  pub answered : number ≡ answer_number o.answer
  pub valued : value ≡ get_or (answer_values o.answer) 0 0
  pub words : ws ≡ words_after o.answer ws₀
  pub tables : t ≡ o.tables
