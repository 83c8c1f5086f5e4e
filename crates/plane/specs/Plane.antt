-- A plane of samples, read with both coordinates clamped into it (7.6.4), and blocks copied from it.
use Rattle.std.specs.Prelude.{ℕ, ◌+◌, ◌-◌, ◌*◌, min, Bool, ◌&&◌, List, eqb, leb, ℤ, pos, ◌+ℤ◌, get_or}
use Rattle.basis.specs.Parts.{above, below}
use Rattle.basis.specs.Lists.{raster}
use Rattle.plane.specs.declared.Geometry.{Geometry}
use Rattle.plane.specs.declared.Point.{Point}

-- rows of `stride` samples, of which the first `width` of each of `height` rows are the picture's
pub record Plane : Type 0 where
  pub samples : List ℕ
  pub width : ℕ
  pub height : ℕ
  pub stride : ℕ

abbrev pub geometry_of : ℕ → ℕ → ℕ → Geometry
geometry_of width height stride = record { width = width; height = height; stride = stride }

abbrev pub plane_of : List ℕ → Geometry → Plane
plane_of samples g = record { samples = samples; width = g.width; height = g.height; stride = g.stride }

-- the place in 0 .. size - 1 that is nearest to z
abbrev pub clamp_to : ℕ → ℤ → ℕ
clamp_to size z = min (above z) (size - 1)

-- the sample at column x and row y (`fetch_clamped`)
unfoldable pub sample_at : Plane → ℤ → ℤ → ℕ
sample_at p x y = get_or p.samples (clamp_to p.height y * p.stride + clamp_to p.width x) 0

-- column i and row j of the block that starts at column x and row y
abbrev pub copied : Plane → ℤ → ℤ → ℕ → ℕ → ℕ
copied p x y i j = sample_at p (x +ℤ pos i) (y +ℤ pos j)

-- w columns and h rows of the plane from a point on
abbrev pub copied_block : Plane → Point → ℕ → ℕ → List ℕ
copied_block p at w h = raster w h (copied p at.x at.y)

-- w columns from x on are all the plane's own
abbrev pub columns_inside : ℤ → ℕ → ℕ → Bool
columns_inside x w width = eqb (below x) 0 && leb (above x + w) width
