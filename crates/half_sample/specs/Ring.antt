-- The samples half a sample from those of a patch that is listed row by row (7.6.2.1): around a whole place they are all that its eight
-- neighbours half a sample away are made of.
use Rattle.std.specs.Prelude.{ℕ, zero, suc, ◌+◌, ◌-◌, ◌%◌, Bool, not, ◌&&◌, List, ltb, eqb, pos, ◌+ℤ◌, ◌-ℤ◌, get_or, Ok}
use Rattle.basis.specs.Lists.{tabulate}
use Rattle.refusal.specs.declared.Refusal.TheVariants.{Length}
use Rattle.refusal.specs.Reply.{Reply, unless}
use Rattle.record.specs.declared.MotionVector.{MotionVector}
use Rattle.plane.specs.declared.Point.{Point}
use Rattle.half_sample.specs.Split.{split_half}
use Rattle.half_sample.specs.Average.{pixel_of}

-- from entry k half a sample to the right (first flag) and half a sample down (second flag), where a row is `stride` samples long
abbrev pub ring_at : List ℕ → ℕ → Bool → Bool → ℕ → ℕ → ℕ
ring_at patch stride hx hy rc k =
    pixel_of (get_or patch k 0) (get_or patch (k + 1) 0) (get_or patch (k + stride) 0) (get_or patch (k + stride + 1) 0) hx hy rc

-- from each of the first n entries; the low bit of the rounding type counts
unfoldable pub ring_grid : List ℕ → ℕ → Bool → Bool → ℕ → ℕ → List ℕ
ring_grid patch stride hx hy rounding n = tabulate n (ring_at patch stride hx hy (rounding % 2))

-- 12: areas that are not equally long, or a patch that has not a row and a sample more
unfoldable pub ring_reply : ℕ → ℕ → ℕ → ℕ → ℕ → Reply
ring_reply bytes stride right below between = unless (ltb right (bytes - stride) && (eqb below right && eqb between right)) Length (Ok tt)

-- ---- around a whole place

-- where the patch begins that has the samples around the whole place of a vector: one to the left of it and one above
abbrev pub ring_corner : Point → MotionVector → Point
ring_corner corner v =
    record { x = corner.x +ℤ ((split_half v.x).whole -ℤ pos 1); y = corner.y +ℤ ((split_half v.y).whole -ℤ pos 1) }

-- k is 0, 1 or 2: half a sample back, none or half a sample on. Whether it lies between samples, and the first that it is read from
abbrev pub off_whole : ℕ → Bool
off_whole k = not (eqb k 1)

abbrev pub read_from : ℕ → ℕ
read_from zero = 0
read_from (suc k) = 1
