-- What each phase of the reordering leaves for the next: cleared counts, counts, pointers, next free places, the filled tables. Assumes nothing.
use Prim.Native.Nat.{ℕ, suc, ◌^◌, ◌<◌, ◌≤◌}
use mathlib.Core.Path.{◌≡◌, ap, ◌∙◌}
use mathlib.Core.List.{List}
use native.Mathlib.Omega.{arith}
use lib.Ieee.{Float, nan}
use lib.ListN.{length, get_or, take, replicate, length-replicate, get_or-replicate}
use lib.Seq.{get_or-take, length-take-le}
use Rattle.desk.specs.Lists.{sums, over}
use Rattle.desk.proofs.Tally.{below, below_suc, below_le}
use Rattle.csc.specs.Csc.{Csc}
use Rattle.reorder.specs.Reorder.{new_col, new_row, new_cols, new_rows, starts, reordered, map_of}
use Rattle.reorder.specs.Kernels.{Reorderable, Reordered}
use Rattle.reorder.specs.Steps.{advanced, widest, room_of, EntriesReady, Filled}
use Rattle.csc.proofs.Formed.{Each, Formed, formed}
use Rattle.reorder.proofs.Formed.{length-entries-upto, each-entry-upto}
use Rattle.reorder.proofs.Gather.{fills, places_same}
use Rattle.reorder.proofs.Starts.{length-starts, starts-at, counts}
use Rattle.reorder.proofs.Steps.{length-advanced}
use Rattle.desk.proofs.Over.{get_d_over, length_over}

module _ {iperm map₀ next₀ : List ℕ} {A P : Csc} (R : Reorderable iperm A P map₀ next₀) where
  well : Formed (length iperm) A.colptr A.rowval
  well = formed (length iperm) A.colptr A.rowval R.pointers R.formed

  abbrev keys : List ℕ
  keys = new_cols (length iperm) iperm A.colptr A.rowval

  abbrev rows : List ℕ
  rows = new_rows (length iperm) iperm A.colptr A.rowval

  long_keys : length keys ≡ length A.rowval
  long_keys = omega (arith, length-entries-upto well (new_col iperm), well.first)

  long-rows : length rows ≡ length A.rowval
  long-rows = omega (arith, length-entries-upto well (new_row iperm), well.first)

  each : Each (length iperm) keys
  each = each-entry-upto well (new_col iperm) (length iperm) (λ c r h k. omega (arith, R.inverse c h, R.inverse r k))

  -- the counts are cleared
  module _ (next₁ : List ℕ) (cleared : next₁ ≡ over (replicate (length iperm) 0) next₀) where
    long₁ : length iperm ≤ length next₁
    long₁ =
        omega (
          arith,
          ap length cleared,
          length_over (replicate (length iperm) 0) next₀ (omega (arith, length-replicate {A = ℕ} (length iperm) 0, R.room_next)),
          R.room_next,
        )

    zeros : (c : ℕ) → c < length iperm → get_or next₁ c 0 ≡ 0
    zeros c h =
        ap (λ (l : List ℕ). get_or l c 0) cleared
        ∙ get_d_over (replicate (length iperm) 0) next₀ 0 c (omega (arith, length-replicate {A = ℕ} (length iperm) 0))
        ∙ get_or-replicate (length iperm) c 0 0 h

    pub countable : EntriesReady widest A.colptr A.rowval iperm next₁
    countable =
        record {
          formed = R.formed;
          pointers = R.pointers;
          inverse = R.inverse;
          long = long₁;
          room = λ k h. omega (arith, zeros k h, below_suc k keys, below_le (suc k) keys, long_keys, R.small);
        }

    -- the entries are counted
    module _ (next₂ : List ℕ) (counted : next₂ ≡ advanced keys next₁) where
      pub long₂ : length iperm ≤ length next₂
      long₂ = omega (arith, ap length counted, length-advanced keys next₁, long₁)

      summed : sums 0 (take (length iperm) next₂) ≡ starts (length iperm) keys
      unfolding starts
      summed = ap (λ (l : List ℕ). sums 0 (take (length iperm) l)) counted ∙ ap (sums 0) (counts keys (length iperm) next₁ long₁ zeros)

      pub small : (c : ℕ) → c ≤ length iperm → get_or (sums 0 (take (length iperm) next₂)) c 0 < 2 ^ 32
      small c h = rw summed (omega (arith, starts-at keys (length iperm) c h, below_le c keys, long_keys, R.small))

      -- the pointers are written, and copied
      module _ (pc next₃ : List ℕ) (pointed : pc ≡ over (sums 0 (take (length iperm) next₂)) P.colptr) (copied : next₃ ≡ over (take (length iperm) pc) next₂) where
        pointers : pc ≡ over (starts (length iperm) keys) P.colptr
        pointers = rw summed at pointed

        long_pc : length pc ≡ length P.colptr
        long_pc =
            ap length pointers
            ∙ length_over (starts (length iperm) keys) P.colptr (omega (arith, length-starts (length iperm) keys, R.room_pointers))

        long_copied : length (take (length iperm) pc) ≡ length iperm
        long_copied = length-take-le (length iperm) pc (omega (arith, long_pc, R.room_pointers))

        long₃ : length iperm ≤ length next₃
        long₃ = omega (arith, ap length copied, length_over (take (length iperm) pc) next₂ (omega (arith, long_copied, long₂)), long₂)

        first-places : (c : ℕ) → c < length iperm → get_or next₃ c 0 ≡ get_or (starts (length iperm) keys) c 0
        first-places c h =
            ap (λ (l : List ℕ). get_or l c 0) copied
            ∙ get_d_over (take (length iperm) pc) next₂ 0 c (omega (arith, long_copied))
            ∙ get_or-take (length iperm) pc c 0 h
            ∙ ap (λ (l : List ℕ). get_or l c 0) pointers
            ∙ get_d_over (starts (length iperm) keys) P.colptr 0 c (omega (arith, length-starts (length iperm) keys))

        begins : (c : ℕ) → c < length iperm → get_or next₃ c 0 ≡ below c keys
        begins c h = first-places c h ∙ starts-at keys (length iperm) c (omega arith)

        pub fillable : EntriesReady (room_of P.rowval P.nzval) A.colptr A.rowval iperm next₃
        fillable =
            record {
              formed = R.formed;
              pointers = R.pointers;
              inverse = R.inverse;
              long = long₃;
              room = λ k h. omega (arith, begins k h, below_suc k keys, below_le (suc k) keys, long_keys, R.small, R.room_rows, R.room_values);
            }

        -- the tables are filled
        pub filled : (next₄ pr map : List ℕ) (pv : List Float) → Filled keys rows A.nzval next₃ next₄ P.rowval pr P.nzval pv map₀ map → Reordered iperm A P (record { colptr = pc; rowval = pr; nzval = pv }) map₀ map
        unfolding reordered map_of
        filled next₄ pr map pv F =
            record {
              colptr = pointers;
              rowval = F.rows ∙ fills 0 (length iperm) keys rows (omega (arith, long_keys, long-rows)) next₃ P.rowval each long₃ begins (omega (arith, long_keys, R.room_rows));
              nzval = F.values ∙ fills nan (length iperm) keys A.nzval (omega (arith, long_keys, R.values)) next₃ P.nzval each long₃ begins (omega (arith, long_keys, R.room_values));
              places =
                  F.place
                  ∙ ap (λ (l : List ℕ). over l map₀)
                  (places_same (length iperm) keys next₃ (starts (length iperm) keys) each long₃ (omega (arith, length-starts (length iperm) keys)) first-places);
            }
