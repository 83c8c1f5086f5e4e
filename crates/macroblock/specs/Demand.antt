-- DEMAND 3 (rules D4 to D9), of an accepted request and its answer, as the reader (rules R1 to R6) gets it at a rounding type, which is 0.
-- A field for each sentence; the sentence on ranges and lists is `Found` of search, field by field, over the reader's own sums.
use Rattle.refusal.specs.Reply.{value_or}
use Rattle.std.specs.Prelude.{ℕ, ◌+◌, ◌*◌, ◌/◌, ◌≤◌, ◌<◌, false, List, [], ◌≡◌, ℤ, pos, nat_abs, ◌-ℤ◌, get_or}
use Rattle.record.specs.declared.MotionVector.{MotionVector}
use Rattle.record.specs.declared.Record.{Record}
use Rattle.record.specs.Zero.{zero_vector, no_record}
use Rattle.plane.specs.Plane.{plane_of}
use Rattle.plane.specs.Source.{eight_of}
use Rattle.quantise.specs.Near.{tolerance}
use Rattle.full_search.specs.Block.{differences, row_by_row}
use Rattle.search.specs.Demand.{OneFound, BlockFound}
use Rattle.reader.specs.Handed.{Handed}
use Rattle.reader.specs.Luma.{sixteen_by, eight_by, one_luma, four_luma}
use Rattle.reader.specs.Levels.{read_levels, read_inverse}
use Rattle.coding.specs.Coding.{transformed, levels_of}
use Rattle.macroblock.specs.Request.{Request, source, residual, search_in, mode_in, sought_in, quantising_in}
use Rattle.macroblock.specs.Answer.{Answer}

-- the record of an answer, all 0 where it is refused
abbrev pub record_in : Answer → Record
record_in a = value_or a.coded no_record

-- what the reader is handed of a request and its answer
abbrev pub handed : Request → Answer → Handed
handed q a =
    record {
      coded = record_in a;
      areas = a.areas;
      reference = plane_of q.reference q.geometry;
      place = q.place;
      mode = mode_in q;
      vectors = q.settings.vectors;
      scan = q.settings.scan;
      quantiser = q.settings.quantiser;
    }

-- the absolute differences of two blocks of side x side samples by rows, added up
abbrev pub sum_over : ℕ → List ℕ → List ℕ → ℕ
sum_over side f g = differences side (row_by_row side f) (row_by_row side g)

-- the sum of any vector, reported or on a list: the source block against the reader's prediction by it
abbrev pub one_sum : ℕ → Request → Answer → MotionVector → ℕ
one_sum rounding q a v = sum_over 16 (source q).y (sixteen_by rounding (handed q a) v)

abbrev pub block_sum : ℕ → Request → Answer → ℕ → MotionVector → ℕ
block_sum rounding q a n v = sum_over 8 (eight_of (source q).y n) (eight_by rounding (handed q a) n v)

-- the transform's coefficient of the residual at place i of 384, and what the reader has there
abbrev pub coefficient_at : Request → ℕ → ℤ
coefficient_at q i = get_or (transformed (residual q)) i (pos 0)

abbrev pub read_level_at : Request → Answer → ℕ → ℤ
read_level_at q a i = get_or (read_levels (handed q a)) i (pos 0)

abbrev pub read_inverse_at : Request → Answer → ℕ → ℤ
read_inverse_at q a i = get_or (read_inverse (handed q a)) i (pos 0)

pub record Demand (rounding : ℕ) (q : Request) (a : Answer) : Type 0 where
  -- the absolute differences between the source block and the reader's luma prediction add to exactly the reported sum
  pub one_sum_is : (record_in a).sum ≡ sum_over 16 (source q).y (one_luma rounding (handed q a))
  -- both parts are in range; the vector stands on its sub-sample list, begun at the full-sample winner, where every entry has at least
  -- its sum and every entry before its first place a greater one
  pub one_found : OneFound (search_in rounding q.settings) (sought_in q) (one_sum rounding q a) (record_in a).vector
  -- the same of each of four, where four were searched for
  pub four_sums : q.settings.vectors ≡ 4 → (n : ℕ) → n < 4
      → get_or (record_in a).sums n 0 ≡ sum_over 8 (eight_of (source q).y n) (get_or (four_luma rounding (handed q a)) n [])
  pub four_found_is : q.settings.vectors ≡ 4 → (n : ℕ) → n < 4
      → BlockFound (search_in rounding q.settings) (record_in a).vector (block_sum rounding q a n) (get_or (record_in a).vectors n zero_vector)
  -- from events and pattern the reader gets exactly the 384 levels of the quantised residual, under either method
  pub levels : read_levels (handed q a) ≡ levels_of (quantising_in q) (residual q)
  -- second method: every non-zero level, inverse quantised, lies within 1 (q = 1) or 3 floor(q/2) of its coefficient
  pub near : q.settings.first_method ≡ false → (i : ℕ) → i < 384 → (read_level_at q a i ≡ pos 0 → ⊥)
      → nat_abs (read_inverse_at q a i -ℤ coefficient_at q i) ≤ tolerance q.settings.quantiser
  -- and each zero level's coefficient is below 2q + floor(q/2) in size
  pub dropped : q.settings.first_method ≡ false → (i : ℕ) → i < 384 → read_level_at q a i ≡ pos 0
      → nat_abs (coefficient_at q i) < 2 * q.settings.quantiser + q.settings.quantiser / 2
