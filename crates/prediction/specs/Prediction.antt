-- The 384 samples of a macroblock, predicted from its vector or its four, three planes and a rounding type.
use Rattle.std.specs.Prelude.{ℕ, cond, ◌&&◌, List, eqb, get_or, Ok}
use Rattle.refusal.specs.declared.Refusal.TheVariants.{Length}
use Rattle.refusal.specs.Reply.{Reply, unless, and_then}
use Rattle.record.specs.declared.MotionVector.{MotionVector}
use Rattle.record.specs.Zero.{zero_vector}
use Rattle.plane.specs.declared.MacroblockPlace.{MacroblockPlace}
use Rattle.plane.specs.Plane.{Plane}
use Rattle.plane.specs.Corner.{corner_of, corner_at, square_at}
use Rattle.plane.specs.Samples.{Samples, samples}
use Rattle.half_sample.specs.Block.{half_block}
use Rattle.prediction.specs.declared.BVopSampleMode.{BVopSampleMode}
use Rattle.prediction.specs.declared.PvopMbMotion.{PvopMbMotion}
use Rattle.prediction.specs.declared.PvopMbMotion.TheVariants.{OneMv, FourMv}
use Rattle.prediction.specs.declared.PlaneLengths.{PlaneLengths}
use Rattle.prediction.specs.declared.ReferenceGeometry.{ReferenceGeometry}
use Rattle.prediction.specs.Luma.{rounding_reply}
use Rattle.prediction.specs.Macroblock.{macroblock_luma, mode_reply, motions_reply}
use Rattle.prediction.specs.Chroma.{chroma_vector}
use Rattle.prediction.specs.Planes.{Planes, planes_reply}

-- what a record moves a macroblock by: its four vectors where the vector count is 4, else its one
abbrev pub motion_of : ℕ → MotionVector → List MotionVector → PvopMbMotion
motion_of count one four =
    cond (eqb count 4) (FourMv (get_or four 0 zero_vector) (get_or four 1 zero_vector) (get_or four 2 zero_vector) (get_or four 3 zero_vector)) (OneMv one)

-- the 8 x 8 block of a chroma plane: half-sample averages in either mode of luma, clamped at the plane's own edges
abbrev pub chroma_block : BVopSampleMode → Plane → PvopMbMotion → MacroblockPlace → ℕ → List ℕ
chroma_block m p motion place rounding = half_block p (square_at (corner_at 8 place) 8) (chroma_vector m motion) rounding

unfoldable pub macroblock_prediction : BVopSampleMode → Planes → PvopMbMotion → MacroblockPlace → ℕ → Samples
macroblock_prediction m p motion place rounding =
    samples (macroblock_luma m p.y motion (corner_of place) rounding)
    (chroma_block m p.cb motion place rounding)
    (chroma_block m p.cr motion place rounding)

-- 12: areas not 256, 64, 64
abbrev pub samples_reply : PlaneLengths → Reply
samples_reply n = unless (eqb n.y 256 && (eqb n.cb 64 && eqb n.cr 64)) Length (Ok tt)

-- 3, 4, 5, 8, 12, 31; the reference's lengths, then the areas'
unfoldable pub prediction_reply : BVopSampleMode → ReferenceGeometry → PlaneLengths → PvopMbMotion → MacroblockPlace → ℕ → PlaneLengths → Reply
prediction_reply m g reference motion place rounding out =
    and_then (mode_reply m)
    (and_then (planes_reply g reference)
    (and_then (motions_reply motion (corner_of place))
    (and_then (samples_reply out) (rounding_reply rounding))))
