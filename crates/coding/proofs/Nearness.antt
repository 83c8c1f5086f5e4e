-- Every level of the second method is near its coefficient, at each of 384 places. Assumes nothing.
use Prim.Native.Nat.{ℕ, ◌+◌, ◌*◌, ◌/◌, ◌%◌, ◌<◌}
use native.Mathlib.Omega.{arith}
use mathlib.Core.Bool.{false}
use mathlib.Core.List.{List}
use mathlib.Core.Path.{◌≡◌, subst}
use lib.IntN.{ℤ, pos}
use lib.ListN.{get_or}
use Rattle.basis.specs.Lists.{rows}
use Rattle.basis.proofs.Lists.{get_or-rows}
use Rattle.fdct.specs.Block.{coefficients}
use Rattle.fdct.proofs.Ranges.{coefficients-length}
use Rattle.quantise.specs.Near.{Near, NearAll}
use Rattle.quantise.proofs.Near.{near_by_method}
use Rattle.reader.specs.Handed.{part_of}
use Rattle.coding.specs.Coding.{Quantising, quantised, transformed, levels_of}
use Rattle.coding.specs.Told.{Quantisable}
use Rattle.coding.proofs.BlockCoding.{quantise_done}
use Rattle.coding.proofs.Levels.{quantised-length}

module _ (by : Quantising) (set : Quantisable by) (second : by.first ≡ false) where
  block_near : (block : List ℤ) → NearAll by.quantiser (coefficients block) (quantised by block)
  unfolding quantised
  block_near block =
      near_by_method (coefficients block) by.quantiser by.first by.weights 64 second (quantise_done by set block)

  module _ (residual : List ℤ) where
    abbrev coefficients_at : ℕ → List ℤ
    coefficients_at b = coefficients (part_of b residual)

    abbrev quantised_at : ℕ → List ℤ
    quantised_at b = quantised by (part_of b residual)

    -- place k of block b
    at_place : (b k : ℕ) → b < 6 → k < 64
        → Near by.quantiser (get_or (rows 6 coefficients_at) (b * 64 + k) (pos 0)) (get_or (rows 6 quantised_at) (b * 64 + k) (pos 0))
    at_place b k h l =
        rw (
          get_or-rows 64 coefficients_at (λ b. coefficients-length (part_of b residual)) 6 k b (pos 0) l h,
          get_or-rows 64 quantised_at (λ b. quantised-length by (part_of b residual)) 6 k b (pos 0) l h,
        )
        ((block_near (part_of b residual)).at k l)

    pub all_near : (i : ℕ) → i < 384 → Near by.quantiser (get_or (transformed residual) i (pos 0)) (get_or (levels_of by residual) i (pos 0))
    unfolding transformed levels_of
    all_near i h =
        let whole : i / 64 * 64 + i % 64 ≡ i = omega arith in
        subst (λ (n : ℕ). Near by.quantiser (get_or (rows 6 coefficients_at) n (pos 0)) (get_or (rows 6 quantised_at) n (pos 0))) whole
        (at_place (i / 64) (i % 64) (omega arith) (omega arith))
