-- How far the full-sample window goes. Assumes nothing.
use Prim.Native.Nat.{ℕ, ◌-◌, ◌/◌, ◌≤◌, max}
use native.Mathlib.Omega.{arith}
use mathlib.Core.Bool.{Bool, true, false, cond}
use mathlib.Core.Path.{◌≡◌}
use lib.Dec.{eqb}
use Rattle.refusal.specs.Test.{between}
use Rattle.prediction.specs.declared.BVopSampleMode.{BVopSampleMode}
use Rattle.prediction.specs.declared.BVopSampleMode.TheVariants.{HalfPel, QuarterPel}
use Rattle.prediction.specs.Luma.{units_per_pel}
use Rattle.search.specs.declared.SearchSettings.{SearchSettings}
use Rattle.search.specs.Range.{range, window}
use Rattle.search.proofs.InRange.{range_most}

-- the widest window is that of fcode 7 in half mode
pub window_most : (s : SearchSettings) → between 1 7 s.fcode ≡ true → window s ≤ 1023
unfolding window
window_most s e = at (eqb s.fcode 1)
  where
    wide : (m : BVopSampleMode) (n : ℕ) → n ≤ 2048 → max (n / units_per_pel m - 1) 8 ≤ 1023
    wide HalfPel n h = omega arith
    wide (QuarterPel bpp) n h = omega arith

    at : (t : Bool) → cond t 8 (max (range s.fcode / units_per_pel s.mode - 1) 8) ≤ 1023
    at true = omega arith
    at false = wide s.mode (range s.fcode) (range_most s.fcode e)
