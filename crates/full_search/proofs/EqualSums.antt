-- Equal sums: of blocks that are equal at each place, of blocks that are listed row by row, and of costs without a discount.
-- Assumes nothing.
use Prim.Native.Nat.{ℕ, ◌-◌, ◌*◌, ◌<◌}
use native.Mathlib.Omega.{arith}
use mathlib.Core.Bool.{Bool, true, false, cond}
use mathlib.Core.List.{List}
use mathlib.Core.Path.{◌≡◌, refl, ap, ap₂, fun_ext}
use lib.Dec.{eqb}
use Rattle.basis.specs.Lists.{raster}
use Rattle.basis.specs.Sums.{sum_to, abs_diff}
use Rattle.basis.proofs.Lists.{get_or-raster}
use Rattle.basis.proofs.Sums.{sum_to_cong}
use Rattle.record.specs.declared.MotionVector.{MotionVector}
use Rattle.full_search.specs.Block.{differences, row_by_row}
use Rattle.full_search.specs.Places.{distance}
use Rattle.full_search.specs.Costs.{discounted}
use Rattle.full_search.specs.ToldPatch.{lines_sum, lines_from}
use Rattle.full_search.proofs.Shown.{listed-place}

-- blocks that are equal at each place differ equally
pub differences_cong : (side : ℕ) (f f' g g' : ℕ → ℕ → ℕ) → ((i j : ℕ) → i < side → j < side → f i j ≡ f' i j)
    → ((i j : ℕ) → i < side → j < side → g i j ≡ g' i j)
    → differences side f g ≡ differences side f' g'
unfolding differences
differences_cong side f f' g g' p q =
    sum_to_cong side (λ j. sum_to side (λ i. abs_diff (f i j) (g i j))) (λ j. sum_to side (λ i. abs_diff (f' i j) (g' i j)))
    (λ j b. sum_to_cong side (λ i. abs_diff (f i j) (g i j)) (λ i. abs_diff (f' i j) (g' i j)) (λ i a. ap₂ abs_diff (p i j a b) (q i j a b)))

-- the sum of two blocks that are both listed row by row
pub listed_sum : (side : ℕ) (source predicted : List ℕ)
    → lines_sum side source side predicted (lines_from 0 side) ≡ differences side (row_by_row side source) (row_by_row side predicted)
unfolding lines_sum differences
listed_sum side source predicted =
    sum_to_cong side _ _
    (λ j hj. sum_to_cong side _ _ (λ i hi. ap (abs_diff (row_by_row side source i j)) (listed-place predicted (j * side) i)))

-- a block that was laid out as a list has the samples that it was laid out from
pub laid_out : (side : ℕ) (f : ℕ → ℕ → ℕ) (i j : ℕ) → i < side → j < side → row_by_row side (raster side side f) i j ≡ f i j
laid_out side f i j a b = get_or-raster side side f i j 0 a b

-- no discount, no difference
pub no_discount : (sum : MotionVector → ℕ) → discounted 0 sum ≡ sum
no_discount sum = fun_ext (λ d. at d (eqb (distance d) 0))
  where
    at : (d : MotionVector) (t : Bool) → cond t (sum d - 0) (sum d) ≡ sum d
    at d true = omega arith
    at d false = refl
