-- Any sequence of calls on a run from its opening, refused ones among them, and the law of its totals.
use Rattle.std.specs.Prelude.{◌≡◌, ℕ, ◌+◌, ◌^◌, ◌<◌, ◌≤◌, List, [], ◌∷◌, length}
use Rattle.refusal.specs.Reply.{written}
use Rattle.record.specs.declared.Record.{Record}
use Rattle.record.specs.Count.{events_in}
use Rattle.plane.specs.declared.SourceSize.{SourceSize}
use Rattle.plane.specs.declared.MacroblockPlace.{MacroblockPlace}
use Rattle.macroblock.specs.Answer.{Answer}
use Rattle.macroblock.specs.Predicted.{PredictedRequest}
use Rattle.macroblock.specs.Request.{Request}
use Rattle.picture.specs.declared.Run.{Run}
use Rattle.picture.specs.Run.{fresh_run, next_place, step_answer, step_of, predicted_step_answer, predicted_step_of}

-- a request, at another place
abbrev pub placed : MacroblockPlace → Request → Request
placed at q =
    record {
      settings = q.settings;
      reference = q.reference;
      geometry = q.geometry;
      y = q.y;
      cb = q.cb;
      cr = q.cr;
      size = q.size;
      place = at;
      weights = q.weights;
      prediction = q.prediction;
      areas = q.areas;
    }

abbrev pub predicted_at : MacroblockPlace → PredictedRequest → PredictedRequest
predicted_at at n =
    record {
      settings = n.settings;
      rounding = n.rounding;
      reference = n.reference;
      geometry = n.geometry;
      source = n.source;
      size = n.size;
      place = at;
      weights = n.weights;
      areas = n.areas;
    }

-- a step of either kind, of whose request the place is the run's own; closing, which changes nothing
pub data Call : Type 0 where
  Step : Request → Call
  StepPredicted : PredictedRequest → Call
  Close : Call

-- the request of a step
abbrev pub asked : Run → Request → Request
asked r q = placed (next_place r) q

abbrev pub predicted_asked : Run → PredictedRequest → PredictedRequest
predicted_asked r n = predicted_at (next_place r) n

-- the run after the calls
abbrev pub run_after : Run → List Call → Run
run_after r [] = r
run_after r (Step q ∷ cs) = run_after (step_of r (asked r q)).run cs
run_after r (StepPredicted n ∷ cs) = run_after (predicted_step_of r (predicted_asked r n)).run cs
run_after r (Close ∷ cs) = run_after r cs

-- the record of an answer that is not a refusal, before others
abbrev pub given : Answer → List Record → List Record
given a ms = written a.coded (λ m. m ∷ ms) ms

-- the records given
abbrev pub records_given : Run → List Call → List Record
records_given r [] = []
records_given r (Step q ∷ cs) = given (step_answer r (asked r q)) (records_given (step_of r (asked r q)).run cs)
records_given r (StepPredicted n ∷ cs) =
    given (predicted_step_answer r (predicted_asked r n)) (records_given (predicted_step_of r (predicted_asked r n)).run cs)
records_given r (Close ∷ cs) = records_given r cs

abbrev pub events_over : List Record → ℕ
events_over [] = 0
events_over (m ∷ ms) = events_in m.counts + events_over ms

abbrev pub sums_over : List Record → ℕ
sums_over [] = 0
sums_over (m ∷ ms) = m.sum + sums_over ms

-- records whose numbers lie in their types: a sum of 32 bits, six counts of 8
abbrev pub InTypes : List Record → Type 0
InTypes [] = Unit {0}
InTypes (m ∷ ms) = ((m.sum < 2 ^ 32) × (events_in m.counts ≤ 1530)) × InTypes ms

-- THE LAW: the next place is the count of records, and the totals are exactly the sums over them
pub record Totalled (s : SourceSize) (cs : List Call) : Type 0 where
  pub size_kept : (run_after (fresh_run s) cs).size ≡ s
  pub counted : (run_after (fresh_run s) cs).macroblocks ≡ length (records_given (fresh_run s) cs)
  pub events_sum : (run_after (fresh_run s) cs).events ≡ events_over (records_given (fresh_run s) cs)
  pub sums_sum : (run_after (fresh_run s) cs).sums ≡ sums_over (records_given (fresh_run s) cs)
