-- Told, not believed: averages between two rows of samples, how many samples a row takes, and what the functions of rows need.
use Rattle.std.specs.Prelude.{ℕ, ◌+◌, ◌*◌, ◌<◌, ◌≤◌, Bool, true, false, ◌||◌, List, ◌≡◌, ℤ, length, get_or, Ok}
use Rattle.basis.specs.Lists.{raster}
use Rattle.plane.specs.declared.Geometry.{Geometry}
use Rattle.plane.specs.declared.Point.{Point}
use Rattle.plane.specs.declared.Site.{Site}
use Rattle.plane.specs.Plane.{Plane}
use Rattle.plane.specs.ToldHeld.{Held}
use Rattle.plane.specs.Reference.{reference_reply}
use Rattle.half_sample.specs.declared.Halves.{Halves}
use Rattle.half_sample.specs.Average.{average2_of, average4_of, pixel_of}
use Rattle.half_sample.specs.Block.{sample_from}

-- one sample more where there is half a sample
abbrev pub samples_for : ℕ → Bool → ℕ
samples_for n true = n + 1
samples_for n false = n

-- column i half a sample to the right, half a sample down, and both
abbrev pub right_of : List ℕ → ℕ → ℕ → ℕ
right_of top rc i = average2_of (get_or top i 0) (get_or top (i + 1) 0) rc

abbrev pub below_of : List ℕ → List ℕ → ℕ → ℕ → ℕ
below_of top low rc i = average2_of (get_or top i 0) (get_or low i 0) rc

abbrev pub between_four : List ℕ → List ℕ → ℕ → ℕ → ℕ
between_four top low rc i = average4_of (get_or top i 0) (get_or top (i + 1) 0) (get_or low i 0) (get_or low (i + 1) 0) rc

-- column i between a row and the row below it
abbrev pub average_at : List ℕ → List ℕ → Halves → ℕ → ℕ
average_at top low halves i =
    pixel_of (get_or top i 0) (get_or top (i + 1) 0) (get_or low i 0) (get_or low (i + 1) 0) halves.x halves.y halves.rc

-- column i and row j of the block that starts at x, y, or by the halves on from there
abbrev pub sample_by : Plane → ℤ → ℤ → Halves → ℕ → ℕ → ℕ
sample_by p x y halves i j = sample_from p x y halves.x halves.y halves.rc i j

-- the block as wide and as high as a site, by the halves on from a point
abbrev pub block_by : Plane → Point → Site → Halves → List ℕ
block_by p at site halves = raster site.width site.height (sample_by p at.x at.y halves)

-- half a sample in one direction or in both
abbrev pub some_half : Halves → Bool
some_half halves = halves.x || halves.y

-- two rows that n samples are averaged between
pub record RowNeeds (top low : List ℕ) (halves : Halves) (n : ℕ) : Type 0 where
  pub top_fits : length top ≡ samples_for n halves.x
  pub low_fits : length low ≡ samples_for n halves.x
  pub some_half_is : some_half halves ≡ true
  pub rc_small : halves.rc < 2

-- row j of n samples, from a column on, inside a plane
pub record PlaneRowNeeds (p : Plane) (column j : ℕ) (halves : Halves) (n : ℕ) : Type 0 where
  pub held : Held p
  pub inside : column + samples_for n halves.x ≤ p.width
  pub narrow : n ≤ 4096
  pub low : j ≤ 4096
  pub some_half_is : some_half halves ≡ true
  pub rc_small : halves.rc < 2

-- h rows of w samples, from a column on, inside a plane
pub record PlaneRowsNeeds (p : Plane) (column w h : ℕ) (halves : Halves) (area : ℕ) : Type 0 where
  pub held : Held p
  pub inside : column + samples_for w halves.x ≤ p.width
  pub narrow : w ≤ 4096
  pub low : h ≤ 4096
  pub some_half_is : some_half halves ≡ true
  pub rc_small : halves.rc < 2
  pub area_fits : area ≡ h * w

-- a block of a reference that is usable
pub record BlockNeeds (g : Geometry) (bytes : ℕ) (site : Site) (halves : Halves) (area : ℕ) : Type 0 where
  pub reference : reference_reply g bytes ≡ Ok tt
  pub some_columns : 0 < site.width
  pub some_rows : 0 < site.height
  pub narrow : site.width ≤ 16
  pub low : site.height ≤ 16
  pub rc_small : halves.rc < 2
  pub area_fits : area ≡ site.height * site.width
