-- A predicted block, read sample by sample. Assumes nothing.
use Prim.Native.Nat.{ℕ, ◌+◌, ◌*◌, ◌<◌}
use mathlib.Core.Path.{◌≡◌}
use lib.ListN.{get_or}
use Rattle.basis.proofs.Lists.{get_or-raster}
use Rattle.record.specs.declared.MotionVector.{MotionVector}
use Rattle.plane.specs.declared.Site.{Site}
use Rattle.plane.specs.Plane.{Plane}
use Rattle.prediction.specs.declared.BVopSampleMode.{BVopSampleMode}
use Rattle.prediction.specs.Luma.{predicted_sample, predicted_block}

module _ (m : BVopSampleMode) (p : Plane) (site : Site) (rounding : ℕ) (v : MotionVector) where
  pub luma_at_lem : (i j : ℕ) → i < site.width → j < site.height
      → get_or (predicted_block m p site rounding v) (j * site.width + i) 0 ≡ predicted_sample m p site rounding v i j
  unfolding predicted_block
  luma_at_lem i j hi hj = get_or-raster site.width site.height (predicted_sample m p site rounding v) i j 0 hi hj
