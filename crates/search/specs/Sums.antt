-- The sum of a vector: over a block's places, |source - prediction| at the settings' rounding type. Every sum of a search is this one.
use Rattle.std.specs.Prelude.{ℕ}
use Rattle.record.specs.declared.MotionVector.{MotionVector}
use Rattle.plane.specs.Corner.{square_at}
use Rattle.prediction.specs.declared.BVopSampleMode.{BVopSampleMode}
use Rattle.prediction.specs.Luma.{whole_vector, predicted_sample}
use Rattle.full_search.specs.Block.{Block, differences}
use Rattle.search.specs.declared.SearchSettings.{SearchSettings}

unfoldable pub vector_sum : SearchSettings → Block → MotionVector → ℕ
vector_sum s b v =
    differences b.side b.source (predicted_sample s.mode b.reference (square_at b.corner b.side) s.rounding v)

-- of a displacement by whole samples
abbrev pub at_whole : BVopSampleMode → (MotionVector → ℕ) → MotionVector → ℕ
at_whole m sum d = sum (whole_vector m d.x d.y)

abbrev pub whole_sum : SearchSettings → Block → MotionVector → ℕ
whole_sum s b = at_whole s.mode (vector_sum s b)
