-- What is predicted: the luma of a block by a vector in half or in quarter samples (7.6.2.1, 7.6.2.2). The one definition of it, on
-- which search, coding and reader rest.
use Rattle.std.specs.Prelude.{ℕ, cond, List, eqb, ℤ, pos, ◌*ℤ◌, Ok}
use Rattle.basis.specs.Lists.{raster}
use Rattle.refusal.specs.declared.Refusal.TheVariants.{RoundingType}
use Rattle.refusal.specs.Reply.{Reply, unless, and_then}
use Rattle.refusal.specs.Bounds.{is_rounding_type}
use Rattle.record.specs.declared.MotionVector.{MotionVector}
use Rattle.plane.specs.declared.Geometry.{Geometry}
use Rattle.plane.specs.declared.Site.{Site}
use Rattle.plane.specs.Plane.{Plane}
use Rattle.plane.specs.Reference.{block_reply}
use Rattle.half_sample.specs.Block.{half_sample}
use Rattle.quarter_sample.specs.Block.{quarter_sample, quarter_reply}
use Rattle.prediction.specs.declared.BVopSampleMode.{BVopSampleMode}
use Rattle.prediction.specs.declared.BVopSampleMode.TheVariants.{HalfPel, QuarterPel}

-- 0: vectors in half samples. Any other: in quarter samples, of so many bits per pixel
abbrev pub mode_of : ℕ → ℕ → BVopSampleMode
mode_of mode bpp = cond (eqb mode 0) HalfPel (QuarterPel bpp)

-- vector units in a sample
abbrev pub units_per_pel : BVopSampleMode → ℕ
units_per_pel HalfPel = 2
units_per_pel (QuarterPel bpp) = 4

-- the vector that moves by whole samples
abbrev pub whole_vector : BVopSampleMode → ℤ → ℤ → MotionVector
whole_vector m dx dy = record { x = dx *ℤ pos (units_per_pel m); y = dy *ℤ pos (units_per_pel m) }

-- column i and row j of the block of a site
abbrev pub predicted_sample : BVopSampleMode → Plane → Site → ℕ → MotionVector → ℕ → ℕ → ℕ
predicted_sample HalfPel p site rounding v i j = half_sample p site.corner v rounding i j
predicted_sample (QuarterPel bpp) p site rounding v i j = quarter_sample p site v rounding bpp i j

-- the whole block, row by row
unfoldable pub predicted_block : BVopSampleMode → Plane → Site → ℕ → MotionVector → List ℕ
predicted_block m p site rounding v = raster site.width site.height (predicted_sample m p site rounding v)

-- 3 in quarter mode, then 4, 5, 8, 12, 14
abbrev pub interpolation_reply : BVopSampleMode → Geometry → ℕ → MotionVector → Site → ℕ → Reply
interpolation_reply HalfPel g bytes v site area = block_reply g bytes v site area
interpolation_reply (QuarterPel bpp) g bytes v site area = quarter_reply bpp g bytes v site area

-- 31: a rounding type above 1
unfoldable pub rounding_reply : ℕ → Reply
rounding_reply rounding = unless (is_rounding_type rounding) RoundingType (Ok tt)

-- those of interpolation, then 31
unfoldable pub predict_reply : BVopSampleMode → Geometry → ℕ → MotionVector → Site → ℕ → ℕ → Reply
predict_reply m g bytes v site rounding area = and_then (interpolation_reply m g bytes v site area) (rounding_reply rounding)
