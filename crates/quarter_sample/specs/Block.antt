-- The block predicted by a vector in quarter samples (7.6.2.2), and what turns it back.
use Rattle.std.specs.Prelude.{ℕ, ◌+◌, ◌*◌, ◌%◌, List, ◌+ℤ◌, Ok}
use Rattle.basis.specs.Lists.{raster}
use Rattle.refusal.specs.declared.Refusal.TheVariants.{BitsPerPixel}
use Rattle.refusal.specs.Reply.{Reply, unless, and_then}
use Rattle.refusal.specs.Bounds.{is_bits}
use Rattle.record.specs.declared.MotionVector.{MotionVector}
use Rattle.plane.specs.declared.Geometry.{Geometry}
use Rattle.plane.specs.declared.Site.{Site}
use Rattle.plane.specs.Plane.{Plane, copied}
use Rattle.plane.specs.Reference.{block_reply}
use Rattle.quarter_sample.specs.Split.{split_quarter}
use Rattle.quarter_sample.specs.Filter.{largest}
use Rattle.quarter_sample.specs.Places.{mirrored, place}

-- column i and row j of the block of a site: whole samples away from its corner one column and one row more than it has are copied,
-- and the quarters choose the place within that copy; the low bit of the rounding type counts
unfoldable pub quarter_sample : Plane → Site → MotionVector → ℕ → ℕ → ℕ → ℕ → ℕ
quarter_sample p site v rounding bpp i j =
    let x = split_quarter v.x in
    let y = split_quarter v.y in
    let copy = copied p (site.corner.x +ℤ x.whole) (site.corner.y +ℤ y.whole) in
    place (rounding % 2) (largest bpp) (mirrored copy (site.width + 1) (site.height + 1)) (x.fraction + 4 * y.fraction) i j

-- the whole block of a site, row by row
unfoldable pub quarter_block : Plane → Site → MotionVector → ℕ → ℕ → List ℕ
quarter_block p site v rounding bpp = raster site.width site.height (quarter_sample p site v rounding bpp)

-- 3: bits per pixel outside 1..8
abbrev pub bits_reply : ℕ → Reply
bits_reply bpp = unless (is_bits bpp) BitsPerPixel (Ok tt)

-- 3, then 4, 5, 8, 12, 14
unfoldable pub quarter_reply : ℕ → Geometry → ℕ → MotionVector → Site → ℕ → Reply
quarter_reply bpp g bytes v site area = and_then (bits_reply bpp) (block_reply g bytes v site area)
