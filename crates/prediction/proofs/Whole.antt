-- Prediction at a whole place, in either mode, by any rounding type and however far, is the clamped sample. Assumes nothing.
use Prim.Native.Nat.{ℕ, ◌≤◌}
use mathlib.Core.Path.{◌≡◌, ap₂, ◌∙◌}
use lib.IntN.{ℤ, ◌+ℤ◌}
use Rattle.basis.proofs.Division.{shr_whole, rest_whole}
use Rattle.plane.specs.declared.Site.{Site}
use Rattle.plane.specs.Plane.{Plane, copied}
use Rattle.half_sample.proofs.Whole.{half_whole}
use Rattle.quarter_sample.proofs.Whole.{quarter_whole}
use Rattle.prediction.specs.declared.BVopSampleMode.{BVopSampleMode}
use Rattle.prediction.specs.declared.BVopSampleMode.TheVariants.{HalfPel, QuarterPel}
use Rattle.prediction.specs.Luma.{whole_vector, predicted_sample}

pub whole_place : (m : BVopSampleMode) (p : Plane) (site : Site) (dx dy : ℤ) (rounding i j : ℕ) → i ≤ site.width → j ≤ site.height
    → predicted_sample m p site rounding (whole_vector m dx dy) i j ≡ copied p (site.corner.x +ℤ dx) (site.corner.y +ℤ dy) i j
whole_place HalfPel p site dx dy rounding i j a b =
    half_whole p site.corner (whole_vector HalfPel dx dy) rounding i j (rest_whole dx 1) (rest_whole dy 1)
    ∙ ap₂ (λ (x y : ℤ). copied p (site.corner.x +ℤ x) (site.corner.y +ℤ y) i j) (shr_whole dx 1) (shr_whole dy 1)
whole_place (QuarterPel bpp) p site dx dy rounding i j a b =
    quarter_whole p site (whole_vector (QuarterPel bpp) dx dy) rounding bpp i j (rest_whole dx 3) (rest_whole dy 3) a b
    ∙ ap₂ (λ (x y : ℤ). copied p (site.corner.x +ℤ x) (site.corner.y +ℤ y) i j) (shr_whole dx 3) (shr_whole dy 3)
