-- The luma of a macroblock: one vector is one 16 x 16 block, four are four 8 x 8 blocks, 0 and 1 above 2 and 3.
use Rattle.std.specs.Prelude.{ℕ, ◌+◌, ◌*◌, ◌/◌, ◌%◌, List, [], ◌∷◌, get_or, Ok}
use Rattle.basis.specs.Lists.{raster}
use Rattle.refusal.specs.Reply.{Reply, and_then}
use Rattle.record.specs.declared.MotionVector.{MotionVector}
use Rattle.record.specs.Zero.{zero_vector}
use Rattle.plane.specs.declared.Geometry.{Geometry}
use Rattle.plane.specs.declared.Point.{Point}
use Rattle.plane.specs.Plane.{Plane}
use Rattle.plane.specs.Corner.{block_corner, square_at}
use Rattle.plane.specs.Reference.{reference_reply, motion_reply, length_reply}
use Rattle.quarter_sample.specs.Block.{bits_reply}
use Rattle.prediction.specs.declared.BVopSampleMode.{BVopSampleMode}
use Rattle.prediction.specs.declared.BVopSampleMode.TheVariants.{HalfPel, QuarterPel}
use Rattle.prediction.specs.declared.PvopMbMotion.{PvopMbMotion}
use Rattle.prediction.specs.declared.PvopMbMotion.TheVariants.{OneMv, FourMv}
use Rattle.prediction.specs.Luma.{predicted_sample, rounding_reply}

-- 8 x 8 block k, from a copy of its own, by its own vector
abbrev pub eight_sample : BVopSampleMode → Plane → List MotionVector → Point → ℕ → ℕ → ℕ → ℕ → ℕ
eight_sample m p vs corner rounding k i j = predicted_sample m p (square_at (block_corner corner k) 8) rounding (get_or vs k zero_vector) i j

-- column i and row j of the macroblock: with four vectors, of block i / 8 + 2 (j / 8)
abbrev pub macroblock_sample : BVopSampleMode → Plane → PvopMbMotion → Point → ℕ → ℕ → ℕ → ℕ
macroblock_sample m p (OneMv v) corner rounding i j = predicted_sample m p (square_at corner 16) rounding v i j
macroblock_sample m p (FourMv a b c d) corner rounding i j =
    eight_sample m p (a ∷ b ∷ c ∷ d ∷ []) corner rounding (i / 8 + 2 * (j / 8)) (i % 8) (j % 8)

unfoldable pub macroblock_luma : BVopSampleMode → Plane → PvopMbMotion → Point → ℕ → List ℕ
macroblock_luma m p v corner rounding = raster 16 16 (macroblock_sample m p v corner rounding)

-- 3, in quarter mode
abbrev pub mode_reply : BVopSampleMode → Reply
mode_reply HalfPel = Ok tt
mode_reply (QuarterPel bpp) = bits_reply bpp

-- 8, for each block
abbrev pub motions_reply : PvopMbMotion → Point → Reply
motions_reply (OneMv v) corner = motion_reply v corner
motions_reply (FourMv a b c d) corner =
    and_then (motion_reply a (block_corner corner 0))
    (and_then (motion_reply b (block_corner corner 1)) (and_then (motion_reply c (block_corner corner 2)) (motion_reply d (block_corner corner 3))))

-- 3, 4, 5, 8, 12, 31
unfoldable pub macroblock_reply : BVopSampleMode → Geometry → ℕ → PvopMbMotion → Point → ℕ → ℕ → Reply
macroblock_reply m g bytes v corner rounding area =
    and_then (mode_reply m)
    (and_then (reference_reply g bytes)
    (and_then (motions_reply v corner)
    (and_then (length_reply area 16 16) (rounding_reply rounding))))
