-- What turns a prediction back where its mode is a number: 2 before 3 (rules F2, O1).
use Rattle.std.specs.Prelude.{ℕ}
use Rattle.refusal.specs.Reply.{Reply, and_then}
use Rattle.record.specs.declared.MotionVector.{MotionVector}
use Rattle.plane.specs.declared.Geometry.{Geometry}
use Rattle.plane.specs.declared.Point.{Point}
use Rattle.plane.specs.declared.Site.{Site}
use Rattle.prediction.specs.declared.PvopMbMotion.{PvopMbMotion}
use Rattle.prediction.specs.Luma.{mode_of, predict_reply}
use Rattle.prediction.specs.Macroblock.{macroblock_reply}
use Rattle.predicting.specs.Mode.{mode_number_reply}

-- 2, 3, 4, 5, 8, 12, 14, 31
abbrev pub luma_block_reply : ℕ → ℕ → Geometry → ℕ → MotionVector → Site → ℕ → ℕ → Reply
luma_block_reply mode bpp g bytes v site rounding area =
    and_then (mode_number_reply mode) (predict_reply (mode_of mode bpp) g bytes v site rounding area)

-- 2, 3, 4, 5, 8, 12, 31
abbrev pub luma_macroblock_reply : ℕ → ℕ → Geometry → ℕ → PvopMbMotion → Point → ℕ → ℕ → Reply
luma_macroblock_reply mode bpp g bytes motion corner rounding area =
    and_then (mode_number_reply mode) (macroblock_reply (mode_of mode bpp) g bytes motion corner rounding area)
