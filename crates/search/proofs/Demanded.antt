-- Demand 3's sentences hold of what the definitions give, and of nothing else. Assumes nothing.
use Prim.Native.Nat.{ℕ, ◌<◌}
use mathlib.Core.List.{List}
use mathlib.Core.Path.{◌≡◌}
use lib.ListN.{get_or}
use Rattle.basis.specs.Lists.{tabulate}
use Rattle.basis.specs.Least.{FirstLeast}
use Rattle.basis.proofs.Lists.{length-tabulate, get_or-tabulate}
use Rattle.basis.proofs.Least.{first_unique}
use Rattle.record.specs.declared.MotionVector.{MotionVector}
use Rattle.record.specs.Zero.{zero_vector}
use Rattle.full_search.specs.Block.{Block, eight}
use Rattle.full_search.specs.Costs.{discounted, zero_discount}
use Rattle.full_search.proofs.FullSearch.{winner_first, four_first}
use Rattle.search.specs.declared.SearchSettings.{SearchSettings}
use Rattle.search.specs.Range.{window}
use Rattle.search.specs.Sums.{vector_sum, whole_sum}
use Rattle.search.specs.Sub.{sub_list, refined}
use Rattle.search.specs.Estimate.{one_vector, block_vector, four_vectors_of}
use Rattle.search.specs.Demand.{Found, OneVector, BlockVector, FourVectors}
use Rattle.search.proofs.Refined.{refined_sum, refined_in, refined_first}

module _ (s : SearchSettings) (b : Block) where
  -- whatever full-sample winner the refinement begins at
  found : (cost : MotionVector → ℕ) (l : List MotionVector) (w : MotionVector) → FirstLeast cost l w
      → Found s (vector_sum s b) cost l (refined (vector_sum s b) s w).vector
  found cost l w f =
      record {
        in_range_is = refined_in (vector_sum s b) s w;
        winner = w;
        winner_first = f;
        vector_first = refined_first (vector_sum s b) s w;
      }

  -- THE LAW of one vector
  pub one_vector_lem : OneVector s b (one_vector s b).vector (one_vector s b).cost
  unfolding one_vector
  one_vector_lem =
      record {
        sum_is = refined_sum (vector_sum s b) s _;
        found = found _ _ _ (winner_first (discounted zero_discount (whole_sum s b)) s.fcode (window s) b);
      }

  -- of one of four
  pub block_vector_lem : (seed : MotionVector) → BlockVector s seed b (block_vector s seed b).vector (block_vector s seed b).cost
  unfolding block_vector
  block_vector_lem seed =
      record {
        sum_is = refined_sum (vector_sum s b) s _;
        found = found _ _ _ (four_first (whole_sum s b) (window s) s.mode seed);
      }

-- of the four
pub four_vectors : (s : SearchSettings) (seed : MotionVector) (b : Block)
    → FourVectors s seed b (four_vectors_of s seed b).vectors (four_vectors_of s seed b).sums
unfolding four_vectors_of
four_vectors s seed b = record { four = length-tabulate 4 vector; four_sums = length-tabulate 4 cost; each = each }
  where
    vector : ℕ → MotionVector
    vector n = (block_vector s seed (eight b n)).vector

    cost : ℕ → ℕ
    cost n = (block_vector s seed (eight b n)).cost

    each : (n : ℕ) → n < 4 → BlockVector s seed (eight b n) (get_or (tabulate 4 vector) n zero_vector) (get_or (tabulate 4 cost) n 0)
    each n h = rw (get_or-tabulate 4 vector n zero_vector h, get_or-tabulate 4 cost n 0 h) (block_vector_lem s (eight b n) seed)

-- For the reader: two vectors of which the sentences hold are one.
pub found_unique : (s : SearchSettings) (sum cost : MotionVector → ℕ) (l : List MotionVector) (v v' : MotionVector)
    → Found s sum cost l v → Found s sum cost l v' → v ≡ v'
found_unique s sum cost l v v' p q =
    let w : p.winner ≡ q.winner = first_unique cost l p.winner q.winner p.winner_first q.winner_first in
    let f : FirstLeast sum (sub_list sum s q.winner) v = rw w at p.vector_first in
    first_unique sum (sub_list sum s q.winner) v v' f q.vector_first
