-- What turns an interpolation back, in its order (rules F4, F5, F8, F12, F14, O2, O3).
use Rattle.refusal.specs.declared.Refusal.{Refusal}
use Rattle.std.specs.Prelude.{ℕ, ◌+◌, ◌-◌, ◌*◌, Bool, ◌&&◌, ◌||◌, List, ltb, eqb, ℤ, pos, negsuc, length, Result, Ok}
use Rattle.refusal.specs.declared.Refusal.TheVariants.{ReferenceSize, ReferenceBytes, Place, Length, Choice}
use Rattle.refusal.specs.Reply.{Reply, answer, unless, and_then}
use Rattle.refusal.specs.Test.{between, in_range}
use Rattle.record.specs.declared.MotionVector.{MotionVector}
use Rattle.plane.specs.declared.Geometry.{Geometry}
use Rattle.plane.specs.declared.Point.{Point}
use Rattle.plane.specs.declared.Site.{Site}
use Rattle.plane.specs.Plane.{plane_of, sample_at}

-- width and height 1..4,096, stride from width to 8,192
abbrev pub sized : Geometry → Bool
sized g = between 1 4096 g.width && (between 1 4096 g.height && between g.width 8192 g.stride)

-- 4: sizes outside bounds
unfoldable pub reference_size_reply : Geometry → Reply
reference_size_reply g = unless (sized g) ReferenceSize (Ok tt)

-- 5: bytes at most (height - 1) * stride + width - 1
unfoldable pub reference_bytes_reply : Geometry → ℕ → Reply
reference_bytes_reply g bytes = unless (ltb ((g.height - 1) * g.stride + (g.width - 1)) bytes) ReferenceBytes (Ok tt)

-- 4, 5
unfoldable pub reference_reply : Geometry → ℕ → Reply
reference_reply g bytes = and_then (reference_size_reply g) (reference_bytes_reply g bytes)

abbrev pub origin_in_range : Point → Bool
origin_in_range o = in_range (negsuc 4095) (pos 4096) o.x && in_range (negsuc 4095) (pos 4096) o.y

abbrev pub vector_in_range : MotionVector → Bool
vector_in_range v = in_range (negsuc 2047) (pos 2047) v.x && in_range (negsuc 2047) (pos 2047) v.y

-- 8, for interpolation: origin outside -4,096..4,096 or vector outside -2,048..2,047
unfoldable pub motion_reply : MotionVector → Point → Reply
motion_reply v o = unless (origin_in_range o && vector_in_range v) Place (Ok tt)

-- 12: an area that is not w times h long
unfoldable pub length_reply : ℕ → ℕ → ℕ → Reply
length_reply area w h = unless (eqb area (w * h)) Length (Ok tt)

abbrev pub is_side : ℕ → Bool
is_side n = eqb n 8 || eqb n 16

-- 14: a block side that is not 8 or 16
unfoldable pub side_reply : ℕ → ℕ → Reply
side_reply w h = unless (is_side w && is_side h) Choice (Ok tt)

-- 4, 5, 8, 12, 14
unfoldable pub block_reply : Geometry → ℕ → MotionVector → Site → ℕ → Reply
block_reply g bytes v s area =
    and_then (reference_reply g bytes)
    (and_then (motion_reply v s.corner)
    (and_then (length_reply area s.width s.height) (side_reply s.width s.height)))

-- 4, 5, 12
unfoldable pub copy_reply : Geometry → ℕ → ℕ → ℕ → ℕ → Reply
copy_reply g bytes w h area = and_then (reference_reply g bytes) (length_reply area w h)

-- 12: an area that is not n long
abbrev pub same_reply : ℕ → ℕ → Reply
same_reply n area = unless (eqb n area) Length (Ok tt)

-- a sample, or why there is none
abbrev pub fetched : List ℕ → Geometry → ℤ → ℤ → Result ℕ Refusal
fetched s g x y = answer (reference_reply g (length s)) (sample_at (plane_of s g) x y)
