-- Demand 3's sentences on a vector that was searched for, over any sum. The search's own sums are `vector_sum` at the settings' rounding
-- type.
use Rattle.std.specs.Prelude.{ℕ, ◌<◌, true, List, ◌≡◌, length, get_or}
use Rattle.basis.specs.Least.{FirstLeast}
use Rattle.record.specs.declared.MotionVector.{MotionVector}
use Rattle.record.specs.Zero.{zero_vector}
use Rattle.full_search.specs.Block.{Block, eight}
use Rattle.full_search.specs.Costs.{discounted, zero_discount}
use Rattle.full_search.specs.Full.{full_list, four_list}
use Rattle.search.specs.declared.SearchSettings.{SearchSettings}
use Rattle.search.specs.Range.{vector_in, window}
use Rattle.search.specs.Sums.{at_whole, vector_sum}
use Rattle.search.specs.Sub.{sub_list}

-- of a vector: both its parts are in range; the winner is the first of least cost on the full-sample list; the vector is the first of
-- least sum on the sub-sample list that begins at that winner
pub record Found (s : SearchSettings) (sum cost : MotionVector → ℕ) (full : List MotionVector) (v : MotionVector) : Type 0 where
  pub in_range_is : vector_in s.fcode v ≡ true
  pub winner : MotionVector
  pub winner_first : FirstLeast cost full winner
  pub vector_first : FirstLeast sum (sub_list sum s winner) v

-- one vector of a macroblock: zero is listed first and costs its sum less the discount
abbrev pub OneFound : SearchSettings → Block → (MotionVector → ℕ) → MotionVector → Type 0
OneFound s b sum =
    let cost = discounted zero_discount (at_whole s.mode sum) in
    Found s sum cost (full_list cost s.fcode (window s) b)

-- one of four: no discount
abbrev pub BlockFound : SearchSettings → MotionVector → (MotionVector → ℕ) → MotionVector → Type 0
BlockFound s seed sum = Found s sum (at_whole s.mode sum) (four_list (window s) s.mode seed)

-- of a vector and its reported sum: the sum is the vector's
pub record OneVector (s : SearchSettings) (b : Block) (v : MotionVector) (reported : ℕ) : Type 0 where
  pub sum_is : reported ≡ vector_sum s b v
  pub found : OneFound s b (vector_sum s b) v

pub record BlockVector (s : SearchSettings) (seed : MotionVector) (b : Block) (v : MotionVector) (reported : ℕ) : Type 0 where
  pub sum_is : reported ≡ vector_sum s b v
  pub found : BlockFound s seed (vector_sum s b) v

-- each of a macroblock's four blocks
pub record FourVectors (s : SearchSettings) (seed : MotionVector) (b : Block) (vs : List MotionVector) (sums : List ℕ) : Type 0 where
  pub four : length vs ≡ 4
  pub four_sums : length sums ≡ 4
  pub each : (n : ℕ) → n < 4 → BlockVector s seed (eight b n) (get_or vs n zero_vector) (get_or sums n 0)
