-- What the factor's kernels take and answer in words. Assumes nothing.
use Rattle.std.specs.Prelude.{ℕ, ◌≡◌, Bool, true, false, cond, List, [], ◌∷◌, Result, Ok, Err, Float}
use Rattle.desk.specs.Lists.{over}
use Rattle.pivot.specs.declared.Regularisation.{Regularisation}
use Rattle.pivot.specs.declared.Regularisation.TheVariants.{Off, On}
use Rattle.row.specs.declared.Progress.{Progress}
use Rattle.row.specs.declared.ZeroPivot.{ZeroPivot}
use Rattle.row.specs.Steps.{progress}
use Rattle.factor.specs.Factor.{Tables}

-- regularisation from a flag and its two numbers
abbrev pub settings : Bool → Float → Float → Regularisation
settings on eps delta = cond on (On eps delta) Off

-- the three numbers of a step: the next row, or that of the zero pivot; inertia, which is 0 there; shifts
abbrev pub progress_words : Progress → List ℕ
progress_words p = p.row ∷ p.inertia ∷ p.shifts ∷ []

abbrev pub step_words : Result Progress ZeroPivot → List ℕ
step_words (Ok p) = progress_words p
step_words (Err z) = progress_words (progress z.row 0 z.shifts)

abbrev pub is_done : Result Progress ZeroPivot → Bool
is_done (Ok p) = true
is_done (Err z) = false

-- what the numeric kernel tells: whether all rows are done, its three words, and the tables
pub record Told (step : Result Progress ZeroPivot) (after : Tables) (done : Bool) (words₀ words : List ℕ) (t : Tables) : Type 0 where
  pub reply : done ≡ is_done step
  pub numbers : words ≡ over (step_words step) words₀
  pub tables : t ≡ after
