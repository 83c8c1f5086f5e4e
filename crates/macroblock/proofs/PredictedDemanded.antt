-- DEMAND 3 holds of the answer to every request whose prediction is made here and that is not refused, and what it is coded against is
-- what the reader gets. Assumes nothing.
use mathlib.Core.Path.{◌≡◌, refl, subst}
use Rattle.std.specs.Prelude.{Ok}
use Rattle.plane.specs.Samples.{Samples}
use Rattle.reader.specs.Prediction.{read_prediction}
use Rattle.macroblock.specs.Answer.{Answer, record_at}
use Rattle.macroblock.specs.Demand.{handed}
use Rattle.macroblock.specs.Predicted.{PredictedRequest, PredictedDemand, reference_planes, made_prediction, predicting, predicted_reply_of, predicted_answer_of}
use Rattle.macroblock.proofs.Answers.{done_answer}
use Rattle.macroblock.proofs.Demanded.{made, demanded_by}
use Rattle.macroblock.proofs.PredictedAccepted.{predicted_accepted}

-- what the reader has of an answer
abbrev read : PredictedRequest → Answer → Samples
read n a = read_prediction n.rounding (handed (predicting n) a) (reference_planes n).cb (reference_planes n).cr

made_same : (n : PredictedRequest) → made_prediction n ≡ read n (made 0 (predicting n))
unfolding made_prediction record_at
made_same n = refl

-- THE THEOREM
pub predicted_demanded : (n : PredictedRequest) → predicted_reply_of n ≡ Ok tt → PredictedDemand n (predicted_answer_of n)
predicted_demanded n e =
    record {
      demand = demanded_by (predicting n) (predicted_reply_of n) e (predicted_accepted n e).quantisable;
      same_prediction =
          subst (λ (a : Answer). made_prediction n ≡ read n a) (done_answer (predicting n) (predicted_reply_of n) _ _ e refl refl) (made_same n);
    }
