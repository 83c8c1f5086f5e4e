-- What turns the prediction of a macroblock back where its mode is a number: 2, then as the mode has it.
use Rattle.std.specs.Prelude.{ℕ}
use Rattle.refusal.specs.Reply.{Reply, and_then}
use Rattle.plane.specs.declared.MacroblockPlace.{MacroblockPlace}
use Rattle.prediction.specs.declared.PlaneLengths.{PlaneLengths}
use Rattle.prediction.specs.declared.PvopMbMotion.{PvopMbMotion}
use Rattle.prediction.specs.declared.ReferenceGeometry.{ReferenceGeometry}
use Rattle.prediction.specs.Luma.{mode_of}
use Rattle.prediction.specs.Prediction.{prediction_reply}
use Rattle.predicting.specs.Mode.{mode_number_reply}

-- 2, 3, 4, 5, 8, 12, 31
abbrev pub macroblock_samples_reply : ℕ → ℕ → ReferenceGeometry → PlaneLengths → PvopMbMotion → MacroblockPlace → ℕ → PlaneLengths → Reply
macroblock_samples_reply mode bpp g reference motion place rounding out =
    and_then (mode_number_reply mode) (prediction_reply (mode_of mode bpp) g reference motion place rounding out)
