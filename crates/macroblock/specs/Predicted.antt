-- The entry that searches, predicts and codes: a call's arguments as one value, what turns it back, what it answers, and demand 3 of it.
-- Its answer is that of the lent form to the prediction made here.
use Rattle.std.specs.Prelude.{ℕ, ◌≡◌, List, ℤ, length, Ok}
use Rattle.refusal.specs.declared.Refusal.TheVariants.{Length}
use Rattle.refusal.specs.Reply.{Reply, unless, and_then}
use Rattle.plane.specs.declared.SourceSize.{SourceSize}
use Rattle.plane.specs.declared.MacroblockPlace.{MacroblockPlace}
use Rattle.plane.specs.Samples.{Samples, samples, lent_samples}
use Rattle.plane.specs.Source.{source_reply}
use Rattle.prediction.specs.declared.ReferenceGeometry.{ReferenceGeometry}
use Rattle.prediction.specs.Luma.{mode_of, rounding_reply}
use Rattle.prediction.specs.Planes.{Planes, planes_of, lengths_in, planes_reply}
use Rattle.prediction.specs.Prediction.{motion_of, macroblock_prediction}
use Rattle.quantise.specs.Block.{weight_reply}
use Rattle.search.specs.Request.{macroblock, settings_reply}
use Rattle.reader.specs.Handed.{Areas, areas}
use Rattle.reader.specs.Prediction.{read_prediction}
use Rattle.macroblock.specs.declared.PredictedLengths.{PredictedLengths}
use Rattle.macroblock.specs.declared.PredictedRequest as lent
use Rattle.macroblock.specs.declared.Searched.{Searched}
use Rattle.macroblock.specs.declared.Settings.{Settings}
use Rattle.macroblock.specs.Request.{Request, search_in, areas_long, choice_reply}
use Rattle.macroblock.specs.Answer.{Answer, searched_of, answer_by}
use Rattle.macroblock.specs.Demand.{Demand, handed}

pub record PredictedRequest : Type 0 where
  pub settings : Settings
  pub rounding : ℕ
  -- the reference's planes
  pub reference : Samples
  pub geometry : ReferenceGeometry
  -- the source's
  pub source : Samples
  pub size : SourceSize
  pub place : MacroblockPlace
  pub weights : List ℕ
  -- the lent areas, as they are when the call begins
  pub areas : Areas

-- from its parts, in the order in which C lends them
abbrev pub predicted_request : Settings → ℕ → List ℕ → List ℕ → List ℕ → ReferenceGeometry → List ℕ → List ℕ → List ℕ
    → SourceSize → MacroblockPlace → List ℕ → List ℕ → List ℕ → List ℤ → PredictedRequest
predicted_request settings rounding ry rcb rcr geometry y cb cr size place weights lasts runs levels =
    record {
      settings = settings;
      rounding = rounding;
      reference = samples ry rcb rcr;
      geometry = geometry;
      source = samples y cb cr;
      size = size;
      place = place;
      weights = weights;
      areas = areas lasts runs levels;
    }

-- what stands in a lent one, for the macroblock at a place
abbrev pub lent_predicted : lent.PredictedRequest → MacroblockPlace → Areas → PredictedRequest
lent_predicted q place a =
    record {
      settings = q.settings;
      rounding = q.rounding;
      reference = lent_samples q.reference;
      geometry = q.geometry;
      source = lent_samples q.source;
      size = q.size;
      place = place;
      weights = q.weights.now;
      areas = a;
    }

-- ---- the prediction made here

-- the request of the lent form that lends a prediction
abbrev pub lending : Samples → PredictedRequest → Request
lending p n =
    record {
      settings = n.settings;
      reference = n.reference.y;
      geometry = n.geometry.luma;
      y = n.source.y;
      cb = n.source.cb;
      cr = n.source.cr;
      size = n.size;
      place = n.place;
      weights = n.weights;
      prediction = p;
      areas = n.areas;
    }

abbrev pub reference_planes : PredictedRequest → Planes
reference_planes n = planes_of n.reference n.geometry

-- what is found for the macroblock in the reference's luma
abbrev pub found_in : PredictedRequest → Searched
found_in n =
    searched_of n.settings.vectors (search_in 0 n.settings) (macroblock n.source.y n.size n.place (reference_planes n).y)

-- by the vectors found, the four where the vector count is 4, at the rounding type
unfoldable pub made_prediction : PredictedRequest → Samples
made_prediction n =
    let motion = motion_of n.settings.vectors (found_in n).vector (found_in n).vectors in
    macroblock_prediction (mode_of n.settings.mode n.settings.bpp) (reference_planes n) motion n.place n.rounding

-- what is coded: the request that lends it
abbrev pub predicting : PredictedRequest → Request
predicting n = lending (made_prediction n) n

-- ---- refusals: 1 2 3 4 5 6 7 8 10 11 12 14 31, 4 and 5 of all three planes

abbrev pub predicted_lengths : PredictedRequest → PredictedLengths
predicted_lengths n =
    record {
      reference = lengths_in n.reference;
      source = lengths_in n.source;
      weights = length n.weights;
      lasts = length n.areas.lasts;
      runs = length n.areas.runs;
      levels = length n.areas.levels;
    }

unfoldable pub predicted_reply : Settings → ℕ → ReferenceGeometry → SourceSize → MacroblockPlace → List ℕ → PredictedLengths → Reply
predicted_reply s rounding geometry size place weights n =
    and_then (settings_reply s.fcode s.mode s.bpp)
    (and_then (planes_reply geometry n.reference)
    (and_then (source_reply size n.source.y n.source.cb n.source.cr place)
    (and_then (weight_reply s.quantiser s.first_method weights)
    (and_then (unless (areas_long n.weights n.lasts n.runs n.levels) Length (Ok tt))
    (and_then (choice_reply s.vectors s.scan)
    (rounding_reply rounding))))))

abbrev pub predicted_reply_of : PredictedRequest → Reply
predicted_reply_of n = predicted_reply n.settings n.rounding n.geometry n.size n.place n.weights (predicted_lengths n)

-- ---- the answer

abbrev pub predicted_answer_of : PredictedRequest → Answer
predicted_answer_of n = answer_by (predicted_reply_of n) (predicting n)

pub record PredictedDemand (n : PredictedRequest) (a : Answer) : Type 0 where
  -- all of demand 3, of what is coded
  pub demand : Demand 0 (predicting n) a
  -- what it is coded against is what the reader gets, from the record, the reference's planes and the rounding type
  pub same_prediction : (predicting n).prediction
      ≡ read_prediction n.rounding (handed (predicting n) a) (reference_planes n).cb (reference_planes n).cr
