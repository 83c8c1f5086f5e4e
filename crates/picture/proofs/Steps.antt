-- A step's answer in its two cases, turned back because of the run or answered by the entry. Assumes nothing.
use Rattle.std.proofs.Common.{◌≡◌, ◌&&◌, eqb, ltb, sym, refl, ap, ◌∙◌, arith}
use Rattle.std.specs.Prelude.{Ok, Err}
use Rattle.refusal.specs.declared.Refusal.{Refusal}
use Rattle.refusal.specs.declared.Refusal.TheVariants.{AfterLast, OtherSize}
use Rattle.refusal.specs.Number.{code_of}
use Rattle.refusal.specs.Reply.{Reply, answer}
use Rattle.refusal.proofs.Others.{Other, unless_other, done_other}
use Rattle.plane.specs.declared.SourceSize.{SourceSize}
use Rattle.reader.specs.Handed.{Areas}
use Rattle.macroblock.specs.Request.{Request}
use Rattle.macroblock.specs.Answer.{Answer, answer_by, answer_of}
use Rattle.macroblock.specs.Predicted.{PredictedRequest, predicted_answer_of}
use Rattle.macroblock.proofs.Placed.{never_8, predicted_never_8}
use Rattle.picture.specs.declared.Run.{Run}
use Rattle.picture.specs.Run.{macroblocks_in, run_reply, unless_run, StepAnswer, step_to, step_of, predicted_step_of}
use Rattle.picture.specs.Calls.{asked, predicted_asked}
use Rattle.picture.proofs.Places.{step_inside}

-- ---- an answer, and the run after it

abbrev pub with_run : Answer → Run → StepAnswer
with_run a n = record { answer = a; run = n }

abbrev turned : Refusal → Areas → Answer
turned why old = record { coded = Err why; areas = old }

-- of either entry: a picture's sizes, what the entry answers, and the areas as they were
module _ (r : Run) (size : SourceSize) (a : Answer) (old : Areas) where
  abbrev stepped : StepAnswer
  stepped = step_to r (unless_run (run_reply r size) a old)

  by_reply : (w : Reply) → run_reply r size ≡ w → step_to r (unless_run w a old) ≡ stepped
  by_reply w e = ap (λ (x : Reply). step_to r (unless_run x a old)) (sym e)

-- turned back because of the run
pub turned_back : (r : Run) (q : Request) (why : Refusal) → run_reply r q.size ≡ Err why → with_run (turned why q.areas) r ≡ step_of r q
unfolding step_of
turned_back r q why e = by_reply r q.size (answer_of q) q.areas (Err why) e

pub predicted_turned_back : (r : Run) (n : PredictedRequest) (why : Refusal) → run_reply r n.size ≡ Err why
    → with_run (turned why n.areas) r ≡ predicted_step_of r n
unfolding predicted_step_of
predicted_turned_back r n why e = by_reply r n.size (predicted_answer_of n) n.areas (Err why) e

-- For the reader: a step that the run lets through is the entry's answer at the run's next place
pub step_coded : (r : Run) (q : Request) → run_reply r q.size ≡ Ok tt → (step_of r (asked r q)).answer ≡ answer_of (asked r q)
unfolding step_of
step_coded r q e = ap (λ (a : StepAnswer). a.answer) (sym (by_reply r q.size (answer_of (asked r q)) q.areas (Ok tt) e))

pub predicted_step_coded : (r : Run) (n : PredictedRequest) → run_reply r n.size ≡ Ok tt
    → (predicted_step_of r (predicted_asked r n)).answer ≡ predicted_answer_of (predicted_asked r n)
unfolding predicted_step_of
predicted_step_coded r n e =
    ap (λ (a : StepAnswer). a.answer) (sym (by_reply r n.size (predicted_answer_of (predicted_asked r n)) n.areas (Ok tt) e))

-- 21 and 22 are other numbers than 8
run_other : (r : Run) (s : SourceSize) → Other 8 (run_reply r s)
unfolding run_reply
run_other r s =
    let same = eqb r.size.width s.width && eqb r.size.height s.height in
    unless_other (ltb r.macroblocks (macroblocks_in r.size)) AfterLast (λ e. omega arith)
    (unless_other same OtherSize (λ e. omega arith) (done_other (omega arith)))

-- an answer that is never 8 where the run lets the step through is never 8
never_by : (r : Run) (size : SourceSize) (a : Answer) (old : Areas) → (run_reply r size ≡ Ok tt → code_of a.coded ≡ 8 → ⊥)
    → code_of (unless_run (run_reply r size) a old).coded ≡ 8 → ⊥
never_by r size a old f = by (run_reply r size) refl
  where
    by : (w : Reply) → run_reply r size ≡ w → code_of (unless_run w a old).coded ≡ 8 → ⊥
    by (Ok _) e h = f e h
    by (Err why) e h = (run_other r size).is_not (ap code_of e ∙ h)

-- an answer has its reply's number
same_code : {T : Type 0} (reply : Reply) (value : T) → code_of reply ≡ code_of (answer reply value)
same_code (Ok _) value = refl
same_code (Err why) value = refl

-- For the reader: 8 is never a step's reply
pub step_never_8 : (r : Run) (q : Request) → code_of (step_of r (asked r q)).answer.coded ≡ 8 → ⊥
unfolding step_of answer_by
step_never_8 r q =
    never_by r q.size (answer_of (asked r q)) q.areas
    (λ e h. never_8 (asked r q) (step_inside r q.size e) (same_code _ _ ∙ h))

pub predicted_step_never_8 : (r : Run) (n : PredictedRequest) → code_of (predicted_step_of r (predicted_asked r n)).answer.coded ≡ 8 → ⊥
unfolding predicted_step_of answer_by
predicted_step_never_8 r n =
    never_by r n.size (predicted_answer_of (predicted_asked r n)) n.areas
    (λ e h. predicted_never_8 (predicted_asked r n) (step_inside r n.size e) (same_code _ _ ∙ h))
