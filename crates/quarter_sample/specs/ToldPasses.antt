-- Told, not believed: the two passes over a copied block, one an axis, and what they need.
use Rattle.std.specs.Prelude.{ℕ, ◌+◌, ◌*◌, ◌<◌, ◌≤◌, cond, List, ◌≡◌, eqb, ℤ, pos, ◌-ℤ◌, length, get_or, Ok}
use Rattle.basis.specs.Lists.{raster}
use Rattle.record.specs.declared.MotionVector.{MotionVector}
use Rattle.plane.specs.declared.Geometry.{Geometry}
use Rattle.plane.specs.declared.Site.{Site}
use Rattle.plane.specs.Reference.{block_reply}
use Rattle.quarter_sample.specs.Filter.{mirror, fir, average}
use Rattle.quarter_sample.specs.Places.{Source, halfway, mirrored, place}

-- the sample at a fraction 0..3 of the way from one sample to the next, of which half is the filtered middle
unfoldable pub mix : ℕ → ℕ → ℕ → ℕ → ℕ → ℕ → ℕ
mix rc max fraction here half next =
    cond (eqb fraction 0) here
    (cond (eqb fraction 1) (average rc max here half)
    (cond (eqb fraction 2) half
    (average rc max half next)))

-- the same from the eight taps around it
unfoldable pub mix_taps : ℕ → ℕ → ℕ → ℕ → ℕ → ℕ → ℕ → ℕ → ℕ → ℕ → ℕ → ℕ
mix_taps rc max fraction s0 s1 s2 s3 s4 s5 s6 s7 = mix rc max fraction s3 (fir rc max s0 s1 s2 s3 s4 s5 s6 s7) s4

-- place i of eight rows, one a tap: half a sample on, that averaged with a row near it, and at the fraction
abbrev pub fir_rows : ℕ → ℕ → List ℕ → List ℕ → List ℕ → List ℕ → List ℕ → List ℕ → List ℕ → List ℕ → ℕ → ℕ
fir_rows rc max t0 t1 t2 t3 t4 t5 t6 t7 i =
    fir rc max (get_or t0 i 0) (get_or t1 i 0) (get_or t2 i 0) (get_or t3 i 0) (get_or t4 i 0) (get_or t5 i 0) (get_or t6 i 0) (get_or t7 i 0)

abbrev pub near_rows : ℕ → ℕ → List ℕ → List ℕ → List ℕ → List ℕ → List ℕ → List ℕ → List ℕ → List ℕ → List ℕ → ℕ → ℕ
near_rows rc max near t0 t1 t2 t3 t4 t5 t6 t7 i = average rc max (get_or near i 0) (fir_rows rc max t0 t1 t2 t3 t4 t5 t6 t7 i)

abbrev pub mix_rows : ℕ → ℕ → ℕ → List ℕ → List ℕ → List ℕ → List ℕ → List ℕ → List ℕ → List ℕ → List ℕ → ℕ → ℕ
mix_rows rc max fraction t0 t1 t2 t3 t4 t5 t6 t7 i =
    mix_taps rc max fraction (get_or t0 i 0) (get_or t1 i 0) (get_or t2 i 0) (get_or t3 i 0) (get_or t4 i 0) (get_or t5 i 0) (get_or t6 i 0) (get_or t7 i 0)

-- place i of one long row, whose taps stand d apart
unfoldable pub spaced_at : ℕ → ℕ → ℕ → List ℕ → ℕ → ℕ → ℕ
spaced_at rc max fraction l d i =
    mix_taps rc max fraction (get_or l (0 + i) 0) (get_or l (d + i) 0) (get_or l (2 * d + i) 0) (get_or l (3 * d + i) 0)
    (get_or l (4 * d + i) 0) (get_or l (5 * d + i) 0) (get_or l (6 * d + i) 0) (get_or l (7 * d + i) 0)

-- one axis: the fraction after place i of a line
unfoldable pub step : ℕ → ℕ → ℕ → (ℤ → ℕ) → ℕ → ℕ
step rc max fraction s i = mix rc max fraction (s (pos i)) (halfway rc max s i) (s (pos (i + 1)))

-- both axes: the vertical fraction fy of the samples at the horizontal fraction fx
unfoldable pub step_both : ℕ → ℕ → ℕ → ℕ → Source → ℕ → ℕ → ℕ
step_both rc max fx fy s x y = step rc max fy (λ (t : ℤ). step rc max fx (λ (u : ℤ). s u t) x) y

-- what index u - 3 of a row reads
abbrev pub reflected : List ℕ → ℕ → ℕ
reflected row u = get_or row (mirror (length row) (pos u -ℤ pos 3)) 0

-- row j of a buffer with rows of w samples, and column i of one with h rows of `stride` samples, read through reflected indices
unfoldable pub row_line : List ℕ → ℕ → ℕ → ℤ → ℕ
row_line l w j t = get_or l (j * w + mirror w t) 0

unfoldable pub column_line : List ℕ → ℕ → ℕ → ℕ → ℤ → ℕ
column_line l stride h i t = get_or l (mirror h t * stride + i) 0

-- what the buffers are filled with: rows of n samples between three samples of their reflection on either side, the first w samples
-- of rows of `stride`, and those of the rows that the indices from -3 on read
abbrev pub extended_rows : ℕ → ℕ → List ℕ → List ℕ
extended_rows n rows block = raster (n + 6) rows (λ (u j : ℕ). row_line block n j (pos u -ℤ pos 3))

abbrev pub taken_rows : ℕ → ℕ → ℕ → List ℕ → List ℕ
taken_rows stride w rows src = raster w rows (λ (i j : ℕ). get_or src (j * stride + i) 0)

abbrev pub mirrored_rows : ℕ → ℕ → ℕ → List ℕ → List ℕ
mirrored_rows stride w size src = raster w (size + 6) (λ (i u : ℕ). column_line src stride size i (pos u -ℤ pos 3))

-- the first w samples of each of so many rows of w + 7 are a block's rows at the horizontal fraction
abbrev pub Filtered : ℕ → ℕ → ℕ → ℕ → ℕ → List ℕ → List ℕ → Type 0
Filtered w rows rc max fraction block wide =
    (i j : ℕ) → i < w → j < rows → get_or wide (j * (w + 7) + i) 0 ≡ step rc max fraction (row_line block (w + 1) j) i

-- the source that a buffer with h rows of w samples holds
unfoldable pub buffer_source : List ℕ → ℕ → ℕ → Source
buffer_source l w h = mirrored (λ (i j : ℕ). get_or l (j * w + i) 0) w h

-- the rows alone at a fraction, out of a block with one column more
abbrev pub rows_at : ℕ → ℕ → ℕ → ℕ → ℕ → List ℕ → List ℕ
rows_at w h rc max fraction block = raster w h (λ (i j : ℕ). step rc max fraction (row_line block (w + 1) j) i)

-- the columns alone, out of one row more of `stride` samples
abbrev pub columns_at : ℕ → ℕ → ℕ → ℕ → ℕ → List ℕ → ℕ → List ℕ
columns_at w h rc max fraction src stride = raster w h (λ (i j : ℕ). step rc max fraction (column_line src stride (h + 1) i) j)

-- the source that a copied block with one column and one row more than is wanted holds
abbrev pub block_source : ℕ → ℕ → List ℕ → Source
block_source w h block = buffer_source block (w + 1) (h + 1)

-- both steps over it, and one of its sixteen places
abbrev pub both_at : ℕ → ℕ → ℕ → ℕ → ℕ → ℕ → List ℕ → List ℕ
both_at w h rc max fx fy block = raster w h (step_both rc max fx fy (block_source w h block))

abbrev pub place_at : ℕ → ℕ → ℕ → ℕ → ℕ → List ℕ → List ℕ
place_at w h rc max n block = raster w h (place rc max (block_source w h block) n)

-- the whole samples
abbrev pub whole_at : ℕ → ℕ → List ℕ → List ℕ
whole_at w h block = raster w h (λ (i j : ℕ). get_or block (j * (w + 1) + i) 0)

-- a block that nothing turns back
pub record Interpolable (g : Geometry) (bytes : ℕ) (site : Site) (v : MotionVector) (bpp area : ℕ) : Type 0 where
  pub some_bits : 1 ≤ bpp
  pub few_bits : bpp ≤ 8
  pub ready : block_reply g bytes v site area ≡ Ok tt

-- eight rows of n samples
pub record TapsFit (t0 t1 t2 t3 t4 t5 t6 t7 : List ℕ) (n : ℕ) : Type 0 where
  pub fits0 : length t0 ≡ n
  pub fits1 : length t1 ≡ n
  pub fits2 : length t2 ≡ n
  pub fits3 : length t3 ≡ n
  pub fits4 : length t4 ≡ n
  pub fits5 : length t5 ≡ n
  pub fits6 : length t6 ≡ n
  pub fits7 : length t7 ≡ n

-- the first rows of a block with rows of n samples
pub record ExtendNeeds (block n rows ext : ℕ) : Type 0 where
  pub n_low : 3 ≤ n
  pub n_high : n ≤ 17
  pub inside : rows * n ≤ block
  pub fits : ext ≡ rows * (n + 6)

-- `size` rows of `stride` samples
pub record MirrorNeeds (src stride w size out : ℕ) : Type 0 where
  pub narrow : w ≤ stride
  pub size_low : 3 ≤ size
  pub size_high : size ≤ 17
  pub inside : size * stride ≤ src
  pub fits : out ≡ (size + 6) * w

-- taps d apart in a buffer of 408
pub record SpacedNeeds (d fraction rc out : ℕ) : Type 0 where
  pub inside : 7 * d + out ≤ 408
  pub some_fraction : 0 < fraction
  pub fraction_small : fraction < 4
  pub rc_small : rc ≤ 1

-- the first rows of a block with one column more than is wanted
pub record RowsNeeds (w rows fraction rc wide : ℕ) : Type 0 where
  pub width_low : 2 ≤ w
  pub width_high : w ≤ 16
  pub rows_high : rows ≤ 17
  pub some_fraction : 0 < fraction
  pub fraction_small : fraction < 4
  pub rc_small : rc ≤ 1
  pub reaches : rows * (w + 7) ≤ wide
  pub wide_high : wide ≤ 400

-- the wanted block, at a fraction
pub record PassNeeds (w h fraction rc out : ℕ) : Type 0 where
  pub width_low : 2 ≤ w
  pub width_high : w ≤ 16
  pub height_low : 2 ≤ h
  pub height_high : h ≤ 16
  pub some_fraction : 0 < fraction
  pub fraction_small : fraction < 4
  pub rc_small : rc ≤ 1
  pub out_fits : out ≡ h * w

-- the wanted block
pub record PlaceNeeds (w h rc out : ℕ) : Type 0 where
  pub width_low : 2 ≤ w
  pub width_high : w ≤ 16
  pub height_low : 2 ≤ h
  pub height_high : h ≤ 16
  pub rc_small : rc ≤ 1
  pub out_fits : out ≡ h * w
