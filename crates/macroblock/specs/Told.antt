-- Told, not believed: what the private functions that search and code are told of a request that is not refused.
use Rattle.std.specs.Prelude.{ℕ, ◌≡◌, length}
use Rattle.refusal.specs.Reply.{Reply}
use Rattle.plane.specs.declared.SourceSize.{SourceSize}
use Rattle.plane.specs.declared.MacroblockPlace.{MacroblockPlace}
use Rattle.plane.specs.Samples.{Samples, lent_samples}
use Rattle.prediction.specs.declared.BVopSampleMode.{BVopSampleMode}
use Rattle.prediction.specs.declared.PlaneLengths.{PlaneLengths}
use Rattle.prediction.specs.declared.PvopMbMotion.{PvopMbMotion}
use Rattle.prediction.specs.Luma.{mode_of}
use Rattle.prediction.specs.Planes.{planes_of, lengths_in}
use Rattle.prediction.specs.Prediction.{motion_of, macroblock_prediction, prediction_reply}
use Rattle.coding.specs.Coding.{Quantising}
use Rattle.coding.specs.Told.{Quantisable, ResidualAccepted}
use Rattle.macroblock.specs.declared.PredictedRequest as lent
use Rattle.macroblock.specs.declared.Searched.{Searched}
use Rattle.macroblock.specs.Request.{Request, quantising_in}

-- a macroblock of planes of y, cb and cr samples, its prediction, what codes it, and areas for all six blocks
pub record CodingNeeds (size : SourceSize) (y cb cr : ℕ) (place : MacroblockPlace) (p : Samples) (by : Quantising) (lasts runs levels : ℕ) : Type 0 where
  pub residual_made : ResidualAccepted size y cb cr place p 384
  pub quantisable : Quantisable by
  pub lasts_long : lasts ≡ 384
  pub runs_long : runs ≡ 384
  pub levels_long : levels ≡ 384

-- those of a request
abbrev pub RequestNeeds : Request → Type 0
RequestNeeds q =
    let a = q.areas in
    CodingNeeds q.size (length q.y) (length q.cb) (length q.cr) q.place q.prediction (quantising_in q)
    (length a.lasts) (length a.runs) (length a.levels)

-- ---- a prediction that is made here, by the vectors that were found

module _ (q : lent.PredictedRequest) where
  abbrev mode : BVopSampleMode
  mode = mode_of q.settings.mode q.settings.bpp

  abbrev motion_by : Searched → PvopMbMotion
  motion_by found = motion_of q.settings.vectors found.vector found.vectors

  abbrev pub prediction_by : MacroblockPlace → Searched → Samples
  prediction_by place found =
      macroblock_prediction mode (planes_of (lent_samples q.reference) q.geometry) (motion_by found) place q.rounding

  -- into three areas so long
  abbrev pub prediction_reply_by : MacroblockPlace → Searched → PlaneLengths → Reply
  prediction_reply_by place found n =
      prediction_reply mode q.geometry (lengths_in (lent_samples q.reference)) (motion_by found) place q.rounding n
