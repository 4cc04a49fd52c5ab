-- `kernels::coinravel_kernel_numeric` meets its contract, from that of the factor. Assumes nothing.
use Prim.Native.Nat.{ℕ}
use mathlib.Core.Path.{◌≡◌, refl}
use mathlib.Core.Bool.{true, false}
use mathlib.Core.List.{List}
use lib.IntN.{ℤ}
use Rattle.std.specs.Prelude.{Result, Ok, Err}
use Rattle.desk.specs.Lists.{over}
use Rattle.csc.specs.Csc.{Csc}
use Rattle.pivot.specs.declared.Regularisation.{Regularisation}
use Rattle.row.specs.declared.Progress.{Progress}
use Rattle.row.specs.declared.ZeroPivot.{ZeroPivot}
use Rattle.row.specs.Steps.{progress}
use Rattle.factor.specs.Factor.{Tables, tables_of}
use Rattle.factor.specs.Steps.{whole, finished, Factored}
use Rattle.kernels.specs.Words.{progress_words, Told}
use Rattle.kernels.proofs.coinravel_kernel_numeric.Goals as goal

module _ (n : ℕ) (A : Csc) (etree : List ℕ) (dsigns : List ℤ) (reg reg' : Regularisation) (t₀ t : Tables) (r : Result Progress ZeroPivot) (ws₀ ws : List ℕ)
    (e : reg ≡ reg') (f : Factored n A (whole n A etree dsigns reg) t₀ t r) where
  told-done : (p : Progress) → ws ≡ over (progress_words p) ws₀ → r ≡ Ok p → Told (finished n (whole n A etree dsigns reg')) (tables_of n A (whole n A etree dsigns reg') t₀) true ws₀ ws t
  told-done p h q = rw (← e, ← f.answer, q) (record { reply = refl; numbers = h; tables = f.written })

  told-zero : (z : ZeroPivot) → ws ≡ over (progress_words (progress z.row 0 z.shifts)) ws₀ → r ≡ Err z → Told (finished n (whole n A etree dsigns reg')) (tables_of n A (whole n A etree dsigns reg') t₀) false ws₀ ws t
  told-zero z h q = rw (← e, ← f.answer, q) (record { reply = refl; numbers = h; tables = f.written })

pub write_progress-requires : goal.write_progress-requires
write_progress-requires c = c.requires.in_bounds

pub write_progress-requires-in-Err : goal.write_progress-requires-in-Err
write_progress-requires-in-Err c = c.requires.in_bounds

pub returns-in-Ok : goal.returns-in-Ok
returns-in-Ok c =
    told-done _ _ _ _ _ _ _ _ _ _ _ c.settings-regularisation.ensures c.numeric-step.ensures _ c.write_progress.ensures c.in-Ok.is

pub returns-in-Err : goal.returns-in-Err
returns-in-Err c =
    told-zero _ _ _ _ _ _ _ _ _ _ _ c.settings-regularisation.ensures c.numeric-step.ensures _ c.write_progress-in-Err.ensures c.in-Err.is
