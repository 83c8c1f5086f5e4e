-- At whole places a prediction is the clamped sample, for any vector. Assumes nothing.
use Prim.Native.Nat.{ℕ, ◌+◌, ◌*◌, ◌%◌, ◌≤◌}
use native.Mathlib.Omega.{arith}
use mathlib.Core.Path.{◌≡◌, ap₂, ◌∙◌}
use lib.IntN.{◌+ℤ◌}
use Rattle.record.specs.declared.MotionVector.{MotionVector}
use Rattle.plane.specs.declared.Site.{Site}
use Rattle.plane.specs.Plane.{Plane, copied}
use Rattle.quarter_sample.specs.Split.{split_quarter}
use Rattle.quarter_sample.specs.Filter.{largest}
use Rattle.quarter_sample.specs.Block.{quarter_sample}
use Rattle.quarter_sample.specs.Places.{mirrored, place}
use Rattle.quarter_sample.proofs.Reflection.{mirror_inside}

module _ (p : Plane) (site : Site) (v : MotionVector) where
  -- what is copied
  abbrev copy : ℕ → ℕ → ℕ
  copy = copied p (site.corner.x +ℤ (split_quarter v.x).whole) (site.corner.y +ℤ (split_quarter v.y).whole)

  pub quarter_whole : (rounding bpp i j : ℕ) → (split_quarter v.x).fraction ≡ 0 → (split_quarter v.y).fraction ≡ 0
      → i ≤ site.width → j ≤ site.height → quarter_sample p site v rounding bpp i j ≡ copy i j
  unfolding quarter_sample place mirrored
  quarter_whole rounding bpp i j x y a b =
      let w = site.width + 1 in
      let h = site.height + 1 in
      ap₂ (λ (m n : ℕ). place (rounding % 2) (largest bpp) (mirrored copy w h) (m + 4 * n) i j) x y
      ∙ ap₂ copy (mirror_inside w i (omega arith)) (mirror_inside h j (omega arith))
