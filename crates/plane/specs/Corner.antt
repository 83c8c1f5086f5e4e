-- Where blocks stand: the corner of a macroblock, and of each of its four 8 x 8 blocks, in whole samples.
use Rattle.std.specs.Prelude.{ℕ, ◌*◌, ◌/◌, ◌%◌, ℤ, pos, ◌+ℤ◌}
use Rattle.plane.specs.declared.MacroblockPlace.{MacroblockPlace}
use Rattle.plane.specs.declared.Point.{Point}
use Rattle.plane.specs.declared.Site.{Site}

-- the corner of a macroblock in a plane where it takes `side` columns and rows: 16 of luma, 8 of chroma
abbrev pub corner_at : ℕ → MacroblockPlace → Point
corner_at side at = record { x = pos (side * at.column); y = pos (side * at.row) }

-- in luma
abbrev pub corner_of : MacroblockPlace → Point
corner_of at = corner_at 16 at

-- the corner of 8 x 8 block n of the macroblock whose corner is o, 0 and 1 above 2 and 3
abbrev pub block_corner : Point → ℕ → Point
block_corner o n = record { x = o.x +ℤ pos (8 * (n % 2)); y = o.y +ℤ pos (8 * (n / 2)) }

-- a block of w columns and h rows from column x and row y on
abbrev pub block_at : ℤ → ℤ → ℕ → ℕ → Site
block_at x y w h = record { corner = record { x = x; y = y }; width = w; height = h }

-- a block as wide as it is high
abbrev pub square_at : Point → ℕ → Site
square_at corner side = record { corner = corner; width = side; height = side }
