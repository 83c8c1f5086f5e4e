-- What the machine reads from the bits of a signed number: the shift that copies the sign bit, and the low bits, at any width.
-- Assumes nothing.
use Prim.Native.Nat.{ℕ, ◌%◌, ◌<◌}
use native.Mathlib.Omega.{arith}
use native.Mathlib.Nat.{lt_trans}
use mathlib.Core.Path.{◌≡◌, refl, ap, ◌∙◌}
use lib.Bits as B
use lib.Dec.{T, lit<}
use lib.IntN.{ℤ, pos, negsuc}
use lib.Signed.{non_neg, shr_z, mag_shr}
use mir.Syntax.{Width, w8, w32}
use mir.Val.{Fits, SFits, to_z, of_z}
use mir.ValLaws.{to_z-of_z, to_z_pos, sfits_le}
use Rattle.basis.specs.Division.{rest_z}

-- an arithmetic shift of a number that fits
pub shr-back : (w : Width) (z : ℤ) (m : ℕ) → SFits w z → to_z w (of_z w (shr_z (to_z w (of_z w z)) m)) ≡ shr_z z m
shr-back w z m f =
    ap (λ (v : ℤ). to_z w (of_z w (shr_z v m))) (to_z-of_z w z f) ∙ to_z-of_z w (shr_z z m) (sfits_le (mag_shr z m) f)

rest_two : (z : ℤ) → SFits w32 z → of_z w32 z % 2 ≡ rest_z z 2
rest_two (pos n) f = refl
rest_two (negsuc n) f = omega (arith, f.sfits)

rest_four : (z : ℤ) → SFits w32 z → of_z w32 z % 4 ≡ rest_z z 4
rest_four (pos n) f = refl
rest_four (negsuc n) f = omega (arith, f.sfits)

-- the masks of one and of two low bits
pub and_one : (z : ℤ) → SFits w32 z → B.bit_and (of_z w32 z) 1 ≡ rest_z z 2
and_one z f = B.and_mask (of_z w32 z) 1 ∙ rest_two z f

pub and_three : (z : ℤ) → SFits w32 z → B.bit_and (of_z w32 z) 3 ≡ rest_z z 4
and_three z f = B.and_mask (of_z w32 z) 2 ∙ rest_four z f

pub rest_below : (z : ℤ) → rest_z z 4 < 4
rest_below (pos n) = omega arith
rest_below (negsuc n) = omega arith

-- what a cast of the two masked bits reads
pub quarters : (z : ℤ) → SFits w32 z → to_z w32 (B.bit_and (of_z w32 z) 3) ≡ pos (rest_z z 4)
quarters z f = ap (to_z w32) (and_three z f) ∙ to_z_pos w32 (rest_z z 4) (lt_trans (rest_below z) (lit< tt))

pub quarters_fit : (z : ℤ) → T (non_neg (pos (rest_z z 4))) × Fits w8 (rest_z z 4)
quarters_fit z = (tt, record { fits = lt_trans (rest_below z) (lit< tt) })
