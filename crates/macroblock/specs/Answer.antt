-- What the entry that searches and codes answers (rules M1 to M3), for every request.
use Rattle.refusal.specs.declared.Refusal.{Refusal}
use Rattle.std.specs.Prelude.{ℕ, cond, List, eqb, replicate, Result}
use Rattle.refusal.specs.Reply.{Reply, answer, done}
use Rattle.record.specs.declared.Record.{Record}
use Rattle.record.specs.Zero.{zero_vector}
use Rattle.full_search.specs.Block.{Block}
use Rattle.search.specs.declared.SearchSettings.{SearchSettings}
use Rattle.search.specs.declared.EstimatedFour.{EstimatedFour}
use Rattle.search.specs.Estimate.{one_vector, four_vectors_of}
use Rattle.reader.specs.Handed.{Areas}
use Rattle.coding.specs.Coding.{areas_of, counts_of, luma_pattern_of, chroma_pattern_of}
use Rattle.macroblock.specs.declared.Searched.{Searched}
use Rattle.macroblock.specs.Request.{Request, residual, search_in, sought_in, quantising_in, reply_of}

-- the four and their sums, seeded by the one
abbrev pub four_of : SearchSettings → Block → EstimatedFour
four_of s b = four_vectors_of s (one_vector s b).vector b

-- by how many vectors are searched for: without a four-vector search the four and their sums are 0
unfoldable pub searched_of : ℕ → SearchSettings → Block → Searched
searched_of vectors s b =
    record {
      vector = (one_vector s b).vector;
      sum = (one_vector s b).cost;
      vectors = cond (eqb vectors 4) (four_of s b).vectors (replicate 4 zero_vector);
      sums = cond (eqb vectors 4) (four_of s b).sums (replicate 4 0);
    }

-- of what was found and how many events each block has
abbrev pub record_with : Searched → List ℕ → Record
record_with found counts =
    record {
      vector = found.vector;
      sum = found.sum;
      vectors = found.vectors;
      sums = found.sums;
      luma_pattern = luma_pattern_of counts;
      chroma_pattern = chroma_pattern_of counts;
      counts = counts;
    }

-- the record of a search at a rounding type
unfoldable pub record_at : ℕ → Request → Record
record_at rounding q =
    record_with (searched_of q.settings.vectors (search_in rounding q.settings) (sought_in q)) (counts_of (quantising_in q) (residual q))

-- the entry searches at rounding type 0
abbrev pub record_of : Request → Record
record_of q = record_at 0 q

-- what a call gives back: its value, and what the three areas then hold
pub record Answer : Type 0 where
  pub coded : Result Record Refusal
  pub areas : Areas

abbrev pub answered : Result Record Refusal → Areas → Answer
answered coded after = record { coded = coded; areas = after }

-- by the reply: refused, the areas are as they were
unfoldable pub answer_by : Reply → Request → Answer
answer_by reply q =
    record {
      coded = answer reply (record_of q);
      areas = done reply (areas_of (quantising_in q) (residual q)) q.areas;
    }

abbrev pub answer_of : Request → Answer
answer_of q = answer_by (reply_of q) q
