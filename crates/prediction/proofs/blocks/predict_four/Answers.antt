-- `prediction::blocks::predict_four` meets its contract.
use Prim.Native.Nat.{ℕ}
use native.Mathlib.Omega.{arith}
use mathlib.Core.List.{List}
use mathlib.Core.Path.{◌≡◌, refl, sym}
use lib.ListN.{length, get_or}
use Rattle.basis.proofs.Lists.{length-raster, laid_none, laid_put}
use Rattle.record.specs.declared.MotionVector.{MotionVector}
use Rattle.record.specs.Zero.{zero_vector}
use Rattle.plane.specs.declared.Geometry.{Geometry}
use Rattle.plane.specs.declared.Point.{Point}
use Rattle.plane.specs.Plane.{plane_of}
use Rattle.plane.specs.Corner.{block_corner, square_at}
use Rattle.prediction.specs.declared.BVopSampleMode.{BVopSampleMode}
use Rattle.prediction.specs.Luma.{predicted_sample, predicted_block}
use Rattle.prediction.specs.ToldFour.{eight_block}
use Rattle.prediction.proofs.blocks.predict_four.Goals as goal

-- each block has 64 samples
long : (s : List ℕ) (g : Geometry) (m : BVopSampleMode) (vs : List MotionVector) (o : Point) (rounding k : ℕ)
    → length (eight_block m (plane_of s g) vs o rounding k) ≡ 64
unfolding predicted_block
long s g m vs o rounding k = length-raster 8 8 (predicted_sample m (plane_of s g) (square_at (block_corner o k) 8) rounding (get_or vs k zero_vector))

pub loop-k-init : goal.loop-k-init
loop-k-init c =
    let a = c.args in
    (omega arith, refl, sym (laid_none _ _ (λ j. long a.samples.now a.geometry a.mode a.vectors a.corner a.rounding j) _))

pub loop-k-preserved : goal.loop-k-preserved
loop-k-preserved c =
    let a = c.args in (
      omega arith,
      omega arith,
      laid_put _ _ (λ j. long a.samples.now a.geometry a.mode a.vectors a.corner a.rounding j) c.loop-k.k a.out.now
          c.loop-k.out _ c.loop-k.invariant.2 c.predict_block.ensures,
    )
