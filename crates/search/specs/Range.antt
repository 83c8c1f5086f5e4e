-- The range of vectors, and how far the full-sample search goes. Rules C1, C4; Table 7-9.
use Rattle.std.specs.Prelude.{ℕ, ◌-◌, ◌*◌, ◌/◌, ◌^◌, max, Bool, cond, ◌&&◌, eqb, ℤ, pos, neg_ℤ}
use Rattle.basis.specs.Cut.{cut_to}
use Rattle.refusal.specs.Test.{in_range}
use Rattle.record.specs.declared.MotionVector.{MotionVector}
use Rattle.prediction.specs.Luma.{units_per_pel}
use Rattle.search.specs.declared.SearchSettings.{SearchSettings}

-- vectors range over -32F .. 32F - 1, F = 2^(fcode - 1)
unfoldable pub range : ℕ → ℕ
range fcode = 32 * 2 ^ (fcode - 1)

unfoldable pub low : ℕ → ℤ
low fcode = neg_ℤ (pos (range fcode))

unfoldable pub high : ℕ → ℤ
high fcode = pos (range fcode - 1)

-- whether both parts of a vector are in range
abbrev pub vector_in : ℕ → MotionVector → Bool
vector_in fcode v = in_range (low fcode) (high fcode) v.x && in_range (low fcode) (high fcode) v.y

-- a vector with each part cut to the range
abbrev pub clamped : ℕ → MotionVector → MotionVector
clamped fcode v = record { x = cut_to (low fcode) (high fcode) v.x; y = cut_to (low fcode) (high fcode) v.y }

-- the full-sample window, in samples to each side (`full_pel_window`)
unfoldable pub window : SearchSettings → ℕ
window s = cond (eqb s.fcode 1) 8 (max (range s.fcode / units_per_pel s.mode - 1) 8)
