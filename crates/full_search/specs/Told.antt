-- Told, not believed: what private functions are told of displacements, blocks and references.
use Rattle.std.specs.Prelude.{ℕ, ◌*◌, ◌≤◌, true, List, ◌≡◌, ◌+ℤ◌, length, Ok}
use Rattle.basis.specs.Parts.{above, below}
use Rattle.record.specs.declared.MotionVector.{MotionVector}
use Rattle.plane.specs.declared.Point.{Point}
use Rattle.plane.specs.Reference.{reference_reply, is_side}
use Rattle.full_search.specs.declared.Target.{Target}

-- displacements that are small enough to be added to
pub record Within (n : ℕ) (d : MotionVector) : Type 0 where
  pub x_above : above d.x ≤ n
  pub x_below : below d.x ≤ n
  pub y_above : above d.y ≤ n
  pub y_below : below d.y ≤ n

-- a corner that a search takes: within 0..4,088
pub record Inside (corner : Point) : Type 0 where
  pub x_most : above corner.x ≤ 4088
  pub x_least : below corner.x ≡ 0
  pub y_most : above corner.y ≤ 4088
  pub y_least : below corner.y ≡ 0

-- where a block stands after a displacement
abbrev pub moved_to : Point → MotionVector → Point
moved_to o d = record { x = o.x +ℤ d.x; y = o.y +ℤ d.y }

-- a source block and a usable reference
pub record Ready (source samples : List ℕ) (t : Target) : Type 0 where
  pub is_side_is : is_side t.side ≡ true
  pub source_fits : length source ≡ t.side * t.side
  pub reference : reference_reply t.geometry (length samples) ≡ Ok tt
  pub inside : Inside t.corner
