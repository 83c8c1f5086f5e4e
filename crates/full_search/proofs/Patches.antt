-- Patches of the reference, as they are copied, show what a block meets there, and have room for the rows that are searched.
-- Assumes nothing.
use Prim.Native.Nat.{ℕ, ◌+◌, ◌-◌, ◌*◌, ◌<◌, ◌≤◌}
use native.Mathlib.Nat.{add-mul, mul_comm, mul-le-mul_left}
use native.Mathlib.Omega.{arith}
use mathlib.Core.List.{List}
use mathlib.Core.Path.{◌≡◌, ap, ap₂, ◌∙◌}
use lib.IntN.{◌+ℤ◌, pos}
use lib.ListN.{length, get_or}
use Rattle.basis.proofs.Bounds.{row_before}
use Rattle.basis.proofs.Lists.{get_or-raster, length-raster}
use Rattle.refusal.specs.Reply.{Reply}
use Rattle.std.specs.Prelude.{Ok}
use Rattle.refusal.specs.Reply.{done}
use Rattle.record.specs.declared.MotionVector.{MotionVector}
use Rattle.plane.specs.declared.Geometry.{Geometry}
use Rattle.plane.specs.declared.Point.{Point}
use Rattle.plane.specs.Plane.{Plane, plane_of, sample_at, copied, copied_block}
use Rattle.plane.specs.Reference.{reference_reply, copy_reply}
use Rattle.plane.proofs.Ready.{copy_done}
use Rattle.full_search.specs.declared.Lines.{Lines}
use Rattle.full_search.specs.Places.{down}
use Rattle.full_search.specs.Told.{moved_to}
use Rattle.full_search.specs.ToldPatch.{Shown, lines_from}
use Rattle.full_search.proofs.Shown.{farther}

-- a copy of a usable reference into an area that fits
pub copy_is : (s : List ℕ) (g : Geometry) (at at' : Point) (w h : ℕ) (r : Reply) (old out : List ℕ)
    → reference_reply g (length s) ≡ Ok tt → length old ≡ w * h → at ≡ at'
    → r ≡ copy_reply g (length s) w h (length old) → out ≡ done r (copied_block (plane_of s g) at w h) old → out ≡ copied_block (plane_of s g) at' w h
copy_is s g at at' w h r old out e f p k o =
    o
    ∙ ap (λ (r : Reply). done r (copied_block (plane_of s g) at w h) old) (k ∙ copy_done g (length s) w h (length old) e f)
    ∙ ap (λ (at : Point). copied_block (plane_of s g) at w h) p

-- and how long it is
pub copy_length : (p : Plane) (at : Point) (w h : ℕ) (out : List ℕ) → out ≡ copied_block p at w h → length out ≡ w * h
copy_length p at w h out e = ap length e ∙ length-raster w h (copied p at.x at.y) ∙ mul_comm h w

module _ (p : Plane) (corner : Point) (d : MotionVector) (w h : ℕ) where
  -- from row r on
  pub patch_shown : (side r : ℕ) (patch : List ℕ) → r + side ≤ h → patch ≡ copied_block p (moved_to corner d) w h
      → Shown side p corner (down d r) patch (record { first = r * w; stride = w }) w
  patch_shown side r patch k e =
      record {
        same =
            λ i j hi hj.
            ap₂ (λ (l : List ℕ) (m : ℕ). get_or l m 0) e (place i j)
            ∙ get_or-raster w h (copied p (corner.x +ℤ d.x) (corner.y +ℤ d.y)) i (r + j) 0 hi (omega arith)
            ∙ ap (sample_at p ((corner.x +ℤ d.x) +ℤ pos i)) (farther corner.y d.y r j);
      }
    where
      place : (i j : ℕ) → r * w + j * w + i ≡ (r + j) * w + i
      place i j = omega (arith, add-mul r j w)

  -- from its first row on
  pub strip_shown : (patch : List ℕ) → patch ≡ copied_block p (moved_to corner d) w h → Shown h p corner d patch (lines_from 0 w) w
  strip_shown patch e =
      record {
        same =
            λ i j hi hj.
            ap₂ (λ (l : List ℕ) (m : ℕ). get_or l m 0) e (first (j * w) i)
            ∙ get_or-raster w h (copied p (corner.x +ℤ d.x) (corner.y +ℤ d.y)) i j 0 hi hj;
      }
    where
      first : (m i : ℕ) → 0 + m + i ≡ m + i
      first m i = omega arith

-- fewer columns
pub narrower : {side : ℕ} {p : Plane} {corner : Point} {d : MotionVector} {patch : List ℕ} {at : Lines} (m n : ℕ) → n ≤ m → Shown side p corner d patch at m
    → Shown side p corner d patch at n
narrower m n h s = record { same = λ i j hi hj. s.same i j (omega arith) hj }

-- n columns of side rows from column c of row r on lie within a patch of w columns and h rows
pub patch_room : (w h side r c : ℕ) → 1 ≤ side → r + side ≤ h → c + side ≤ w → r * w + c + (side - 1) * w + side ≤ h * w
patch_room w h side r c a b k =
    let m : r + (side - 1) < h = omega arith in
    omega (arith, row_before w m, add-mul r (side - 1) w)

-- the columns that the places of a strip meet lie within it: `count` places, `step` apart
pub strip_columns : (side step count : ℕ) → step * (count - 1) + side ≤ side + step * count
strip_columns side step count =
    let l : count - 1 ≤ count = omega arith in
    omega (arith, mul-le-mul_left step l)
