-- Told, not believed: the start and the half ring in half mode, summed on windows of a patch and of three grids.
use Rattle.std.specs.Prelude.{ℕ, ◌+◌, ◌-◌, ◌*◌, ◌/◌, ◌%◌, ◌≤◌, Bool, true, false, not, ◌&&◌, ◌||◌, ◌≡◌, ℤ, length}
use mathlib.Core.List.{List}
use Rattle.basis.specs.Parts.{above, below}
use Rattle.refusal.specs.Test.{between}
use Rattle.record.specs.declared.MotionVector.{MotionVector}
use Rattle.plane.specs.Plane.{plane_of, copied_block}
use Rattle.plane.specs.Reference.{is_side}
use Rattle.half_sample.specs.Block.{half_sample}
use Rattle.half_sample.specs.Split.{half_of}
use Rattle.half_sample.specs.Ring.{ring_corner, off_whole, read_from}
use Rattle.full_search.specs.declared.Sought.{Sought}
use Rattle.full_search.specs.Block.{Block, differences, row_by_row}
use Rattle.full_search.specs.Window.{window_at}
use Rattle.search.specs.Range.{vector_in}
use Rattle.search.specs.Sub.{stepped}
use Rattle.search.specs.Told.{SoughtReady}

-- the sum of a vector in half mode
abbrev pub half_sum : ℕ → Block → MotionVector → ℕ
half_sum rounding b v = differences b.side b.source (half_sample b.reference b.corner v rounding)

-- place n of the 3 x 3 around c, not clamped
abbrev pub beside : ℕ → MotionVector → ℕ → MotionVector
beside step c n = record { x = stepped c.x step (n % 3); y = stepped c.y step (n / 3) }

-- c stands at a whole place, and none of the 3 x 3 around it is clamped
abbrev pub free : ℕ → MotionVector → Bool
free fcode c = not (half_of c.x || half_of c.y) && (vector_in fcode (beside 1 c 0) && vector_in fcode (beside 1 c 8))

-- ---- windows

-- the grid half a sample to the right, below, or both
abbrev pub grid_of : Bool → Bool → List ℕ → List ℕ → List ℕ → List ℕ
grid_of hx false right under diagonal = right
grid_of false true right under diagonal = under
grid_of true true right under diagonal = diagonal

-- where place n's window begins
abbrev pub window_of : ℕ → ℕ → ℕ
window_of stride n = read_from (n / 3) * stride + read_from (n % 3)

-- the sum on it
abbrev pub grid_sum : ℕ → List ℕ → List ℕ → List ℕ → List ℕ → ℕ → ℕ
grid_sum side source right under diagonal n =
    let grid = grid_of (off_whole (n % 3)) (off_whole (n / 3)) right under diagonal in
    differences side (row_by_row side source) (window_at grid (window_of (side + 2) n) (side + 2))

-- how much of a patch has neighbours
abbrev pub grid_size : ℕ → ℕ
grid_size side = (side + 1) * (side + 2) - 1

-- a source block and three grids
pub record Grids (side : ℕ) (source right under diagonal : List ℕ) : Type 0 where
  pub is_side_is : is_side side ≡ true
  pub source_fits : length source ≡ side * side
  pub right_fits : length right ≡ grid_size side
  pub under_fits : length under ≡ grid_size side
  pub diagonal_fits : length diagonal ≡ grid_size side

-- ---- the patch

-- how many samples it has
abbrev pub patch_size : ℕ → ℕ
patch_size side = (side + 2) * (side + 2)

-- the block that a vector moves to, with a sample more on each side
abbrev pub patch_of : Sought → MotionVector → List ℕ
patch_of b v =
    copied_block (plane_of b.reference.now b.target.geometry) (ring_corner b.target.corner v) (b.target.side + 2) (b.target.side + 2)

-- a corner's part and a vector's that can be added
pub record Addable (corner v : ℤ) : Type 0 where
  pub corner_most : above corner ≤ 4088
  pub corner_least : below corner ≡ 0
  pub above_small : above v ≤ 2048
  pub below_small : below v ≤ 2048

-- a start whose neighbours are not clamped
pub record FreeStart (b : Sought) (fcode : ℕ) (v : MotionVector) : Type 0 where
  pub ready : SoughtReady b
  pub fcode_usable : between 1 7 fcode ≡ true
  pub vector_in_is : vector_in fcode v ≡ true
  pub is_free : free fcode v ≡ true

-- how many samples a patch of `side` and each of its grids have
pub record Areas (side patch grid : ℕ) : Type 0 where
  pub patch_fits : patch ≡ patch_size side
  pub grid_fits : grid ≡ grid_size side
