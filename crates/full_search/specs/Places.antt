-- Displacements by whole samples, in rows. Rules C6 to C8.
use Rattle.std.specs.Prelude.{ℕ, ◌+◌, ◌-◌, ◌*◌, ◌/◌, max, min, cond, List, [], ◌∷◌, pos, neg_ℤ, nat_abs, ◌+ℤ◌}
use Rattle.basis.specs.Lists.{rows}
use Rattle.basis.specs.Parts.{above}
use Rattle.refusal.specs.Test.{between}
use Rattle.record.specs.declared.MotionVector.{MotionVector}
use Rattle.plane.specs.declared.Point.{Point}
use Rattle.full_search.specs.declared.Row.{Row}
use Rattle.full_search.specs.declared.Square.{Square}

abbrev pub right : MotionVector → ℕ → MotionVector
right d i = record { x = d.x +ℤ pos i; y = d.y }

abbrev pub down : MotionVector → ℕ → MotionVector
down d j = record { x = d.x; y = d.y +ℤ pos j }

-- the larger of its two parts' sizes
abbrev pub distance : MotionVector → ℕ
distance d = max (nat_abs d.x) (nat_abs d.y)

-- a displacement, unless it is nearer or farther than asked for
unfoldable pub listed : ℕ → ℕ → MotionVector → List MotionVector
listed inner outer d = cond (between inner outer (distance d)) (d ∷ []) []

-- place k of a row, where it is listed
abbrev pub row_place : Row → ℕ → List MotionVector
row_place r k = listed r.inner r.outer (right r.from (r.step * k))

-- `count` places from `from` on, `step` apart
unfoldable pub row_of : Row → List MotionVector
row_of r = rows r.count (row_place r)

-- row j of a square
abbrev pub square_row : Square → ℕ → Row
square_row q j = record { from = down q.from j; step = 1; count = q.count; inner = 0; outer = q.outer }

-- `count` rows of `count` places from a displacement on, inside ±outer
unfoldable pub square_of : Square → List MotionVector
square_of q = rows q.count (λ j. row_of (square_row q j))

-- The lattice: every fourth place of the window ±w, clipped so that a macroblock whose corner stands m samples from the reference's
-- edge keeps a sample inside a reference of this size.
-- how far the clipped window goes back
abbrev pub back : ℕ → ℕ → ℕ
back w m = min w (m + 15)

-- every fourth of its places, which go up to w and to size - 1 - m: how many there are
abbrev pub places : ℕ → ℕ → ℕ → ℕ
places w m size = (min (back w m + w + 1) (back w m + size - m) + 3) / 4

abbrev pub lattice_from : ℕ → Point → MotionVector
lattice_from w corner = record { x = neg_ℤ (pos (back w (above corner.x))); y = neg_ℤ (pos (back w (above corner.y))) }

-- its row j, outside ±8, which was searched before
abbrev pub lattice_row_at : ℕ → MotionVector → ℕ → ℕ → Row
lattice_row_at w from count j = record { from = down from (4 * j); step = 4; count = count; inner = 9; outer = w }

abbrev pub lattice_row : ℕ → MotionVector → ℕ → ℕ → List MotionVector
lattice_row w from count j = row_of (lattice_row_at w from count j)

unfoldable pub lattice : ℕ → Point → ℕ → ℕ → List MotionVector
lattice w corner width height =
    rows (places w (above corner.y) height) (lattice_row w (lattice_from w corner) (places w (above corner.x) width))
