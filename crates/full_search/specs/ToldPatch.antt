-- Told, not believed: patches of the reference, copied once, on which the code sums and searches.
use Rattle.std.specs.Prelude.{ℕ, ◌+◌, ◌-◌, ◌*◌, ◌<◌, ◌≤◌, true, List, [], ◌∷◌, ◌≡◌, ◌+ℤ◌, length, get_or}
use Rattle.basis.specs.Sums.{sum_to, abs_diff}
use Rattle.record.specs.declared.MotionVector.{MotionVector}
use Rattle.record.specs.Zero.{zero_vector}
use Rattle.plane.specs.declared.Point.{Point}
use Rattle.plane.specs.Plane.{Plane, copied, copied_block}
use Rattle.plane.specs.Reference.{is_side}
use Rattle.full_search.specs.declared.judged.Judged.{Judged}
use Rattle.full_search.specs.declared.Lines.{Lines}
use Rattle.full_search.specs.declared.Row.{Row}
use Rattle.full_search.specs.declared.Scored.{Scored}
use Rattle.full_search.specs.Block.{block_in}
use Rattle.full_search.specs.Costs.{zero_discount, at_cost}
use Rattle.full_search.specs.Places.{right, distance, row_place}
use Rattle.full_search.specs.Full.{near_square, near_rows}
use Rattle.full_search.specs.Told.{Within, moved_to}
use Rattle.full_search.specs.ToldKept.{judged_block, copied_cost, kept_of, found, NoMoreThanZero}

abbrev pub lines_from : ℕ → ℕ → Lines
lines_from first stride = record { first = first; stride = stride }

-- the reference's samples from a displacement of the block on
abbrev pub copied_from : Judged → MotionVector → ℕ → ℕ → List ℕ
copied_from s d w h = let b = judged_block s in copied_block b.reference (moved_to b.corner d) w h

-- where row j begins
abbrev pub line_at : Lines → ℕ → ℕ
line_at l j = l.first + j * l.stride

-- a block's rows lie within these samples
abbrev pub LinesFit : ℕ → Lines → List ℕ → Type 0
LinesFit side l samples = line_at l (side - 1) + side ≤ length samples

-- and those of a source that are `apart` samples apart
abbrev pub RowsFit : ℕ → ℕ → List ℕ → Type 0
RowsFit side apart source = (side - 1) * apart + side ≤ length source

-- of row j: `side` samples of a source whose rows are `apart` samples apart, against those of a window
abbrev pub row_sum : ℕ → List ℕ → ℕ → List ℕ → Lines → ℕ → ℕ
row_sum side source apart window at j = sum_to side (λ i. abs_diff (get_or source (j * apart + i) 0) (get_or window (line_at at j + i) 0))

unfoldable pub lines_sum : ℕ → List ℕ → ℕ → List ℕ → Lines → ℕ
lines_sum side source apart window at = sum_to side (row_sum side source apart window at)

-- a part of a patch: `columns` columns from its first sample on are what the block meets at displacement d and to the right
pub record Shown (side : ℕ) (p : Plane) (corner : Point) (d : MotionVector) (patch : List ℕ) (at : Lines) (columns : ℕ) : Type 0 where
  pub same : (i j : ℕ) → i < columns → j < side
      → get_or patch (line_at at j + i) 0 ≡ copied p (corner.x +ℤ d.x) (corner.y +ℤ d.y) i j

-- a patch has what one place meets
pub record PlaceReady (side : ℕ) (source patch : List ℕ) (at : Lines) : Type 0 where
  pub is_side_is : is_side side ≡ true
  pub source_fits : length source ≡ side * side
  pub fits : LinesFit side at patch

-- `by` columns on
abbrev pub lines_right : Lines → ℕ → Lines
lines_right l by = record { first = l.first + by; stride = l.stride }

-- a patch has all that a row of `count` places, `step` apart, meets
pub record RowReady (side : ℕ) (source patch : List ℕ) (at : Lines) (r : Row) : Type 0 where
  pub is_side_is : is_side side ≡ true
  pub source_fits : length source ≡ side * side
  pub fits : (k : ℕ) → k < r.count → LinesFit side (lines_right at (r.step * k)) patch
  pub from_small : Within 4096 r.from
  pub run_small : r.step * r.count ≤ 4096

-- every place of a row is listed, and none of them is zero
pub record ListedWhole (r : Row) : Type 0 where
  pub all : (k : ℕ) → k < r.count → row_place r k ≡ right r.from (r.step * k) ∷ []
  pub other : (k : ℕ) → k < r.count → distance (right r.from (r.step * k)) ≡ 0 → ⊥

-- the columns that a row's places meet
abbrev pub row_columns : ℕ → Row → ℕ
row_columns side r = r.step * (r.count - 1) + side

-- whatever reference and place a patch shows: of a best so far that costs no more than zero does there, r is what a search over l keeps,
-- and costs no more than zero does either
pub record KeptOn (side : ℕ) (source patch : List ℕ) (at : Lines) (columns : ℕ) (from : MotionVector) (discount : ℕ)
    (l : List MotionVector) (s r : Scored) : Type 0 where
  pub kept : (p : Plane) (corner : Point) → Shown side p corner from patch at columns
      → NoMoreThanZero (copied_cost discount (block_in side source p corner)) s
      → (r ≡ kept_of (copied_cost discount (block_in side source p corner)) s l)
      × NoMoreThanZero (copied_cost discount (block_in side source p corner)) r

-- ---- the square of ±8, on a patch of 32 rows of 32 samples

-- all that its places meet
abbrev pub NearPatch : List ℕ → Plane → Point → Type 0
NearPatch patch p corner = patch ≡ copied_block p (moved_to corner near_square.from) 32 32

-- whatever reference and place the patch is of: r is zero at its cost there
pub record MiddleStart (source patch : List ℕ) (r : Scored) : Type 0 where
  pub start : (p : Plane) (corner : Point) → NearPatch patch p corner → r ≡ at_cost (copied_cost zero_discount (block_in 16 source p corner)) zero_vector

-- r is what a search from zero over the square keeps there
pub record NearKept (source patch : List ℕ) (r : Scored) : Type 0 where
  pub kept : (p : Plane) (corner : Point) → NearPatch patch p corner → r ≡ found (copied_cost zero_discount (block_in 16 source p corner)) near_rows
