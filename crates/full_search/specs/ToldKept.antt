-- Told, not believed: what a search keeps, which is the best so far with its cost, and what it needs to go on.
use Rattle.std.specs.Prelude.{ℕ, zero, suc, ◌+◌, ◌-◌, ◌*◌, ◌≤◌, ◌≡◌, length}
use mathlib.Core.List.{List, foldl}
use Rattle.basis.specs.Lists.{rows}
use Rattle.record.specs.declared.MotionVector.{MotionVector}
use Rattle.record.specs.Zero.{zero_vector}
use Rattle.full_search.specs.declared.judged.Judged.{Judged}
use Rattle.full_search.specs.declared.Row.{Row}
use Rattle.full_search.specs.declared.Scored.{Scored}
use Rattle.full_search.specs.declared.Square.{Square}
use Rattle.full_search.specs.declared.Target.{Target}
use Rattle.full_search.specs.Block.{Block, block_of, lent_block, copied_sum}
use Rattle.full_search.specs.Costs.{discounted, zero_discount, at_cost, consider}
use Rattle.full_search.specs.Places.{down, row_of, lattice}
use Rattle.full_search.specs.Told.{Within}

-- what a search over l keeps that begins with the best so far
abbrev pub kept_of : (MotionVector → ℕ) → Scored → List MotionVector → Scored
kept_of cost s l = foldl (consider cost) s l

-- what a search from zero over l keeps
abbrev pub found : (MotionVector → ℕ) → List MotionVector → Scored
found cost l = kept_of cost (at_cost cost zero_vector) l

-- n rows, each made from the best so far
unfoldable pub kept_rows : (MotionVector → ℕ) → (MotionVector → ℕ → List MotionVector) → Scored → ℕ → Scored
kept_rows cost piece s zero = s
kept_rows cost piece s (suc n) = kept_of cost (kept_rows cost piece s n) (piece (kept_rows cost piece s n).vector n)

-- a block's cost by its copied sums
abbrev pub copied_cost : ℕ → Block → MotionVector → ℕ
copied_cost discount b = discounted discount (copied_sum b)

abbrev pub target_cost : ℕ → List ℕ → List ℕ → Target → MotionVector → ℕ
target_cost discount source samples t = copied_cost discount (block_of source samples t)

-- the block that is searched for
abbrev pub judged_block : Judged → Block
judged_block s = lent_block s.sought

-- what a displacement of it costs in the search for one vector
abbrev pub sixteen_cost : Judged → MotionVector → ℕ
sixteen_cost s = let b = s.sought in target_cost zero_discount b.source.now b.reference.now b.target

-- and in that for one of four
abbrev pub eight_cost : Judged → MotionVector → ℕ
eight_cost s = copied_sum (judged_block s)

-- the lattice of a target's place
abbrev pub target_lattice : ℕ → Target → List MotionVector
target_lattice w t = lattice w t.corner t.geometry.width t.geometry.height

-- a row of places, `by` samples farther down
abbrev pub row_below : Row → ℕ → Row
row_below r by = record { from = down r.from by; step = r.step; count = r.count; inner = r.inner; outer = r.outer }

-- n rows of places from the first on, four samples apart
abbrev pub rows_below : Row → ℕ → List MotionVector
rows_below r n = rows n (λ i. row_of (row_below r (4 * i)))

-- a best so far that costs no more than zero does
abbrev pub NoMoreThanZero : (MotionVector → ℕ) → Scored → Type 0
NoMoreThanZero cost s = s.cost ≤ cost zero_vector

-- ---- what is needed to search on

-- over a row, on a strip of the reference
pub record StripReady (s : Judged) (strip : List ℕ) (r : Row) (best : Scored) : Type 0 where
  pub from_small : Within 4096 r.from
  pub run_small : r.step * r.count ≤ 4096
  pub strip_fits : length strip ≡ (s.sought.target.side + r.step * r.count) * s.sought.target.side
  pub best_small : NoMoreThanZero (sixteen_cost s) best

-- over a square, on a patch of the reference
pub record SquareReady (s : Judged) (patch : List ℕ) (q : Square) (best : Scored) : Type 0 where
  pub from_small : Within 4000 q.from
  pub some : 1 ≤ q.count
  pub few : q.count ≤ 17
  pub patch_fits : length patch ≡ (s.sought.target.side + q.count - 1) * (s.sought.target.side + q.count - 1)
  pub best_small : NoMoreThanZero (eight_cost s) best

-- beyond ±8, in the search for one vector
pub record WideReady (s : Judged) (w : ℕ) (best : Scored) : Type 0 where
  pub sixteen : s.sought.target.side ≡ 16
  pub window_small : w ≤ 1023
  pub best_small : NoMoreThanZero (sixteen_cost s) best

-- over at most four rows of places, on a band of the reference
pub record BandReady (s : Judged) (band : List ℕ) (first : Row) (n : ℕ) (best : Scored) : Type 0 where
  pub sixteen : s.sought.target.side ≡ 16
  pub from_small : Within 4000 first.from
  pub run_small : first.step * first.count ≤ 2048
  pub few : n ≤ 4
  pub band_fits : length band ≡ (16 + first.step * first.count) * 28
  pub best_small : NoMoreThanZero (sixteen_cost s) best

-- over the lattice's rows, each of which goes at most `most` samples far
pub record LatticeReady (s : Judged) (first : Row) (lines most : ℕ) (best : Scored) : Type 0 where
  pub sixteen : s.sought.target.side ≡ 16
  pub from_small : Within 1023 first.from
  pub run_small : first.step * first.count ≤ most
  pub few : lines ≤ 512
  pub best_small : NoMoreThanZero (sixteen_cost s) best
