-- A block predicted from a plane by a vector in half samples (7.6.2.1), at any corner, of any width and height.
use Rattle.std.specs.Prelude.{ℕ, ◌+◌, ◌%◌, Bool, List, ℤ, ◌+ℤ◌}
use Rattle.basis.specs.Lists.{raster}
use Rattle.record.specs.declared.MotionVector.{MotionVector}
use Rattle.plane.specs.declared.Point.{Point}
use Rattle.plane.specs.declared.Site.{Site}
use Rattle.plane.specs.Plane.{Plane, copied}
use Rattle.half_sample.specs.Split.{split_half}
use Rattle.half_sample.specs.Average.{pixel_of}

-- column i and row j of the block that starts at x, y, or half a sample on from there
abbrev pub sample_from : Plane → ℤ → ℤ → Bool → Bool → ℕ → ℕ → ℕ → ℕ
sample_from p x y hx hy rc i j =
    pixel_of (copied p x y i j) (copied p x y (i + 1) j) (copied p x y i (j + 1)) (copied p x y (i + 1) (j + 1)) hx hy rc

-- column i and row j of the block at a corner, moved by a vector; the low bit of the rounding type counts
unfoldable pub half_sample : Plane → Point → MotionVector → ℕ → ℕ → ℕ → ℕ
half_sample p corner v rounding i j =
    let x = split_half v.x in
    let y = split_half v.y in
    sample_from p (corner.x +ℤ x.whole) (corner.y +ℤ y.whole) x.half y.half (rounding % 2) i j

-- the whole block of a site, row by row
unfoldable pub half_block : Plane → Site → MotionVector → ℕ → List ℕ
half_block p site v rounding = raster site.width site.height (half_sample p site.corner v rounding)
