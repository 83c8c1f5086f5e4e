-- Equal sums: of a displacement by whole samples from the reference's own samples, and of source and predicted blocks from their lists.
-- Assumes nothing.
use Prim.Native.Nat.{ℕ, ◌≤◌, ◌<◌}
use native.Mathlib.Omega.{arith}
use mathlib.Core.List.{List}
use mathlib.Core.Path.{◌≡◌, refl, sym, fun_ext, ◌∙◌}
use lib.IntN.{◌+ℤ◌}
use Rattle.basis.specs.Lists.{raster}
use Rattle.record.specs.declared.MotionVector.{MotionVector}
use Rattle.plane.specs.declared.Point.{Point}
use Rattle.plane.specs.Corner.{square_at}
use Rattle.plane.specs.Plane.{Plane, copied}
use Rattle.prediction.specs.Luma.{whole_vector, predicted_sample, predicted_block}
use Rattle.prediction.proofs.LumaAt.{luma_at_lem}
use Rattle.prediction.proofs.Whole.{whole_place}
use Rattle.full_search.specs.Block.{differences, Block, row_by_row, block_in, copied_sum}
use Rattle.full_search.proofs.EqualSums.{differences_cong, laid_out}
use Rattle.search.specs.declared.SearchSettings.{SearchSettings}
use Rattle.search.specs.Sums.{vector_sum, whole_sum}

-- a whole place needs no interpolation: its sum is that of the clamped samples
pub copied_whole : (s : SearchSettings) (b : Block) → copied_sum b ≡ whole_sum s b
unfolding copied_sum vector_sum
copied_whole s b = fun_ext at
  where
    below : (i : ℕ) → i < b.side → i ≤ b.side
    below i h = omega arith

    at : (d : MotionVector) → copied_sum b d ≡ whole_sum s b d
    at d =
        let site = square_at b.corner b.side in
        differences_cong b.side b.source b.source (copied b.reference (b.corner.x +ℤ d.x) (b.corner.y +ℤ d.y))
        (predicted_sample s.mode b.reference site s.rounding (whole_vector s.mode d.x d.y)) (λ i j p q. refl)
        (λ i j p q. sym (whole_place s.mode b.reference site d.x d.y s.rounding i j (below i p) (below j q)))

-- For the reader: so it depends neither on the mode nor on the rounding type.
pub whole_any : (s s' : SearchSettings) (b : Block) → whole_sum s b ≡ whole_sum s' b
whole_any s s' b = sym (copied_whole s b) ∙ copied_whole s' b

-- a source block that was laid out as a list has the sums of the source
pub source_sums : (s : SearchSettings) (side : ℕ) (f : ℕ → ℕ → ℕ) (p : Plane) (corner : Point)
    → vector_sum s (block_in side (raster side side f) p corner) ≡ vector_sum s (record { side = side; source = f; reference = p; corner = corner })
unfolding vector_sum
source_sums s side f p corner =
    fun_ext (λ v. differences_cong side (row_by_row side (raster side side f)) f _ _ (laid_out side f) (λ i j a b. refl))

-- the sum of a source block laid out by rows against a predicted block is the vector's
pub sum_of_blocks : (s : SearchSettings) (b : Block) (source : List ℕ)
    → ((i j : ℕ) → i < b.side → j < b.side → row_by_row b.side source i j ≡ b.source i j) → (v : MotionVector)
    → let predicted = predicted_block s.mode b.reference (square_at b.corner b.side) s.rounding v in
    differences b.side (row_by_row b.side source) (row_by_row b.side predicted) ≡ vector_sum s b v
unfolding vector_sum
sum_of_blocks s b source same v =
    differences_cong b.side _ _ _ _ same
    (λ i j h k. luma_at_lem s.mode b.reference (square_at b.corner b.side) s.rounding v i j h k)
