-- A picture's run (rules U1 to U6) as a machine on values, and what turns it back because of the run (rules F21 to F23, U4):
-- 21, 22, 23.
use Rattle.refusal.specs.declared.Refusal.{Refusal}
use Rattle.macroblock.specs.Demand.{record_in}
use Rattle.std.specs.Prelude.{ℕ, ◌+◌, ◌*◌, ◌/◌, ◌%◌, ◌^◌, ◌&&◌, ◌==◌, nat_le, nat_lt, Result, Ok, Err}
use Rattle.refusal.specs.declared.Refusal.TheVariants.{AfterLast, OtherSize, BeforeLast}
use Rattle.refusal.specs.Reply.{Reply, answer, unless, done}
use Rattle.record.specs.declared.Record.{Record}
use Rattle.record.specs.Count.{events_in}
use Rattle.plane.specs.declared.SourceSize.{SourceSize}
use Rattle.plane.specs.declared.MacroblockPlace.{MacroblockPlace}
use Rattle.plane.specs.Source.{macroblocks_of, source_side_reply}
use Rattle.reader.specs.Handed.{Areas}
use Rattle.macroblock.specs.Request.{Request}
use Rattle.macroblock.specs.Answer.{Answer, answer_of, answered}
use Rattle.macroblock.specs.Predicted.{PredictedRequest, predicted_answer_of}
use Rattle.picture.specs.declared.Run.{Run}
use Rattle.picture.specs.declared.Totals.{Totals}

-- how many macroblocks cover a picture
abbrev pub macroblocks_in : SourceSize → ℕ
macroblocks_in s = macroblocks_of s.width * macroblocks_of s.height

-- ---- opening

-- of a picture of which nothing is coded yet
abbrev pub fresh_run : SourceSize → Run
fresh_run s = record { size = s; macroblocks = 0; events = 0; sums = 0 }

-- 6
unfoldable pub open_of : SourceSize → Result Run Refusal
open_of s = answer (source_side_reply s) (fresh_run s)

-- ---- a step

-- row by row: the next macroblock's place is the count of those given
abbrev pub next_place : Run → MacroblockPlace
next_place r =
    record {
      column = r.macroblocks % macroblocks_of r.size.width;
      row = r.macroblocks / macroblocks_of r.size.width;
    }

-- 21: after the last macroblock. 22: sizes other than at opening
unfoldable pub run_reply : Run → SourceSize → Reply
run_reply r s =
    unless (nat_lt r.macroblocks (macroblocks_in r.size)) AfterLast
    (unless (r.size.width == s.width && r.size.height == s.height) OtherSize (Ok tt))

-- the run with one record more; its numbers are of 64 bits
abbrev pub after : Run → Record → Run
after r m =
    record {
      size = r.size;
      macroblocks = (r.macroblocks + 1) % 2 ^ 64;
      events = (r.events + events_in m.counts) % 2 ^ 64;
      sums = (r.sums + m.sum) % 2 ^ 64;
    }

-- turned back because of the run, the areas are as they were; else the answer is the entry's
abbrev pub unless_run : Reply → Answer → Areas → Answer
unless_run (Ok _) a old = a
unless_run (Err why) a old = record { coded = Err why; areas = old }

-- what a step gives back: an answer of the entry's kind, and the run
pub record StepAnswer : Type 0 where
  pub answer : Answer
  pub run : Run

abbrev pub stepped_to : Result Record Refusal → Run → Areas → StepAnswer
stepped_to coded run after = record { answer = answered coded after; run = run }

-- after an answer; refused, the run is as it went in
abbrev pub step_to : Run → Answer → StepAnswer
step_to r a = record { answer = a; run = done a.coded (after r (record_in a)) r }

-- the answer to a request for the run's next place
abbrev pub step_answer : Run → Request → Answer
step_answer r q = unless_run (run_reply r q.size) (answer_of q) q.areas

unfoldable pub step_of : Run → Request → StepAnswer
step_of r q = step_to r (step_answer r q)

-- and to one whose prediction is made here
abbrev pub predicted_step_answer : Run → PredictedRequest → Answer
predicted_step_answer r n = unless_run (run_reply r n.size) (predicted_answer_of n) n.areas

unfoldable pub predicted_step_of : Run → PredictedRequest → StepAnswer
predicted_step_of r n = step_to r (predicted_step_answer r n)

-- ---- closing

abbrev pub totals_of : Run → Totals
totals_of r = record { macroblocks = r.macroblocks; events = r.events; sums = r.sums }

-- 23: before the last macroblock
unfoldable pub close_reply : Run → Reply
close_reply r = unless (nat_le (macroblocks_in r.size) r.macroblocks) BeforeLast (Ok tt)

unfoldable pub close_of : Run → Result Totals Refusal
close_of r = answer (close_reply r) (totals_of r)
