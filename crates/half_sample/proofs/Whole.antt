-- At a whole place, by any vector, the prediction is the clamped sample. Assumes nothing.
use Prim.Native.Nat.{ℕ, ◌%◌}
use mathlib.Core.Bool.{not}
use mathlib.Core.Path.{◌≡◌, ap₂}
use lib.Dec.{eqb}
use lib.IntN.{◌+ℤ◌}
use Rattle.basis.specs.Division.{rest_z}
use Rattle.record.specs.declared.MotionVector.{MotionVector}
use Rattle.plane.specs.declared.Point.{Point}
use Rattle.plane.specs.Plane.{Plane, copied}
use Rattle.half_sample.specs.Split.{split_half}
use Rattle.half_sample.specs.Block.{sample_from, half_sample}

pub half_whole : (p : Plane) (corner : Point) (v : MotionVector) (rounding i j : ℕ) → rest_z v.x 2 ≡ 0 → rest_z v.y 2 ≡ 0
    → half_sample p corner v rounding i j ≡ copied p (corner.x +ℤ (split_half v.x).whole) (corner.y +ℤ (split_half v.y).whole) i j
unfolding half_sample
half_whole p corner v rounding i j e f =
    let x = corner.x +ℤ (split_half v.x).whole in
    let y = corner.y +ℤ (split_half v.y).whole in
    ap₂ (λ (s t : ℕ). sample_from p x y (not (eqb s 0)) (not (eqb t 0)) (rounding % 2) i j) e f
