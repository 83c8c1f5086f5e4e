-- The chroma vector where the mode is a number: 2, 8.
use Rattle.record.specs.declared.MotionVector.{MotionVector}
use Rattle.refusal.specs.declared.Refusal.{Refusal}
use Rattle.std.specs.Prelude.{ℕ, Result}
use Rattle.refusal.specs.Reply.{and_then}
use Rattle.prediction.specs.declared.PvopMbMotion.{PvopMbMotion}
use Rattle.prediction.specs.Luma.{mode_of}
use Rattle.prediction.specs.Chroma.{chroma_vector_of}
use Rattle.predicting.specs.Mode.{mode_number_reply}

-- in quarter samples the bits per pixel do not count
abbrev pub chroma_in : ℕ → PvopMbMotion → Result MotionVector Refusal
chroma_in mode motion = and_then (mode_number_reply mode) (chroma_vector_of (mode_of mode 8) motion)
