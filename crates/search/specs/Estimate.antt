-- What the two entries answer: one vector of a macroblock with its sum, or four. They search at rounding type 0. Rules C13 to C16.
use Rattle.refusal.specs.declared.Refusal.{Refusal}
use Rattle.std.specs.Prelude.{Result}
use Rattle.basis.specs.Lists.{tabulate}
use Rattle.refusal.specs.Reply.{Reply, answer}
use Rattle.record.specs.declared.MotionVector.{MotionVector}
use Rattle.full_search.specs.declared.Scored.{Scored}
use Rattle.full_search.specs.Block.{Block, eight}
use Rattle.full_search.specs.Costs.{discounted, zero_discount}
use Rattle.full_search.specs.Full.{full_winner, four_winner}
use Rattle.search.specs.declared.SearchSettings.{SearchSettings}
use Rattle.search.specs.declared.Estimated.{Estimated}
use Rattle.search.specs.declared.EstimatedFour.{EstimatedFour}
use Rattle.search.specs.Range.{window}
use Rattle.search.specs.Sums.{vector_sum, whole_sum}
use Rattle.search.specs.Sub.{refined}
use Rattle.search.specs.Request.{SearchRequest, settings_in, sought, search_reply, four_reply}

-- the vector of a macroblock: the full-sample winner, where zero costs less, refined
unfoldable pub one_vector : SearchSettings → Block → Scored
one_vector s b = refined (vector_sum s b) s (full_winner (discounted zero_discount (whole_sum s b)) s.fcode (window s) b)

-- the vector of an 8 x 8 block: the winner around the seed, refined
unfoldable pub block_vector : SearchSettings → MotionVector → Block → Scored
block_vector s seed b = refined (vector_sum s b) s (four_winner (whole_sum s b) (window s) s.mode seed)

abbrev pub estimated : Reply → Scored → Result Estimated Refusal
estimated reply v = answer reply (record { vector = v.vector; sum = v.cost })

-- the vectors of a macroblock's four blocks
unfoldable pub four_vectors_of : SearchSettings → MotionVector → Block → EstimatedFour
four_vectors_of s seed b =
    record {
      vectors = tabulate 4 (λ n. (block_vector s seed (eight b n)).vector);
      sums = tabulate 4 (λ n. (block_vector s seed (eight b n)).cost);
    }

unfoldable pub estimate_motion : SearchRequest → Result Estimated Refusal
estimate_motion q = estimated (search_reply q) (one_vector (settings_in 0 q) (sought q))

unfoldable pub estimate_four : SearchRequest → MotionVector → Result EstimatedFour Refusal
estimate_four q seed = answer (four_reply q seed) (four_vectors_of (settings_in 0 q) seed (sought q))
