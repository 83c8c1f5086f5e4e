-- Told, not believed: four blocks that are not turned back, and where their samples go.
use Rattle.std.specs.Prelude.{ℕ, ◌+◌, ◌*◌, ◌/◌, ◌%◌, ◌<◌, true, List, ◌≡◌, get_or, Ok}
use Rattle.record.specs.declared.MotionVector.{MotionVector}
use Rattle.record.specs.Zero.{zero_vector}
use Rattle.plane.specs.declared.Geometry.{Geometry}
use Rattle.plane.specs.declared.Point.{Point}
use Rattle.plane.specs.Plane.{Plane}
use Rattle.plane.specs.Corner.{block_corner, square_at}
use Rattle.plane.specs.Reference.{origin_in_range}
use Rattle.prediction.specs.declared.BVopSampleMode.{BVopSampleMode}
use Rattle.prediction.specs.Luma.{predicted_block, interpolation_reply}

-- none of the four is turned back
pub record FourReady (m : BVopSampleMode) (g : Geometry) (bytes : ℕ) (vs : List MotionVector) (corner : Point) : Type 0 where
  pub in_range_is : origin_in_range corner ≡ true
  pub each : (k : ℕ) → k < 4 → interpolation_reply m g bytes (get_or vs k zero_vector) (square_at (block_corner corner k) 8) 64 ≡ Ok tt

-- 8 x 8 block k, from a copy of its own, by its own vector
abbrev pub eight_block : BVopSampleMode → Plane → List MotionVector → Point → ℕ → ℕ → List ℕ
eight_block m p vs corner rounding k = predicted_block m p (square_at (block_corner corner k) 8) rounding (get_or vs k zero_vector)

-- where part n, of 8 samples, of the macroblock's rows stands in the four blocks
abbrev pub part_at : ℕ → ℕ
part_at n = 64 * (n % 2 + 2 * (n / 16)) + 8 * (n / 2 % 8)
