-- Told, not believed: what private functions are told of a plane, a row of it as they read it, and what copying a macroblock's part needs.
use Rattle.std.specs.Prelude.{ℕ, ◌+◌, ◌-◌, ◌*◌, ◌<◌, ◌≤◌, ◌≡◌, List, ℤ, pos, ◌+ℤ◌, length, get_or}
use Rattle.plane.specs.declared.SourceSize.{SourceSize}
use Rattle.plane.specs.declared.MacroblockPlace.{MacroblockPlace}
use Rattle.plane.specs.Plane.{Plane, clamp_to}
use Rattle.plane.specs.Source.{packed}

-- the samples hold the plane
pub record Held (p : Plane) : Type 0 where
  pub wide : 0 < p.width
  pub high : 0 < p.height
  pub last : (p.height - 1) * p.stride + (p.width - 1) < length p.samples

-- the sample of a row at x + i, clamped into the row
abbrev pub clamped_in : List ℕ → ℤ → ℕ → ℕ
clamped_in row x i = get_or row (clamp_to (length row) (x +ℤ pos i)) 0

-- the column that is read for column i of a block from x on
abbrev pub column_at : ℕ → ℤ → ℕ → ℕ
column_at width x i = clamp_to width (x +ℤ pos i)

-- the sample of a row at column i of a list of columns, each of which is the row's own
abbrev pub gathered : List ℕ → List ℕ → ℕ → ℕ
gathered row columns i = get_or row (get_or columns i 0) 0

pub record ColumnsIn (columns : List ℕ) (n : ℕ) : Type 0 where
  pub column_in : (i : ℕ) → i < length columns → get_or columns i 0 < n

-- what `copy_part` needs: a plane that is held, a place whose corner fits an i32, and an area for its square
pub record PartNeeds (samples : List ℕ) (size : SourceSize) (at : MacroblockPlace) (side area : ℕ) : Type 0 where
  pub hold : Held (packed samples size)
  pub column_small : at.column < 256
  pub row_small : at.row < 256
  pub side_small : side ≤ 16
  pub area_fits : area ≡ side * side
