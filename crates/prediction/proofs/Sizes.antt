-- Sizes of components: what is small lies in the range of vectors, quotients are smaller, and sums are read back from their 32 bits.
-- Assumes nothing.
use Prim.Native.Nat.{◌≤◌}
use native.Mathlib.Omega.{arith}
use mathlib.Core.Bool.{true}
use mathlib.Core.Path.{◌≡◌, sym, ap₂, subst}
use lib.IntN.{ℤ, pos, negsuc, nat_abs, ◌+ℤ◌}
use lib.Signed.{shr_z, quot_z}
use mir.Syntax.{w32}
use mir.Val.{SFits, to_z, of_z}
use mir.ValLaws.{to_z-of_z}
use Rattle.basis.proofs.Parts.{size_parts, parts_fit}
use Rattle.basis.proofs.Parts.{above-shr, below-shr, above_quot, below_quot}
use Rattle.basis.proofs.Sizes.{size_add}
use Rattle.refusal.specs.Test.{in_range}
use Rattle.refusal.proofs.Tests.{range_is}

-- small is in range
pub in_size : (z : ℤ) → nat_abs z ≤ 2047 → in_range (negsuc 2047) (pos 2047) z ≡ true
in_size z h = range_is (negsuc 2047) (pos 2047) z (omega (arith, size_parts z)) (omega (arith, size_parts z))

-- a quarter, rounded down
pub size_quarter : (z : ℤ) → nat_abs z ≤ 2048 → nat_abs (shr_z z 4) ≤ 512
size_quarter z h = omega (arith, size_parts z, size_parts (shr_z z 4), above-shr z 4, below-shr z 3)

-- a half, toward zero
pub size_half : (z : ℤ) → nat_abs (quot_z z (pos 2)) ≤ nat_abs z
size_half z = omega (arith, size_parts z, size_parts (quot_z z (pos 2)), above_quot z 2, below_quot z 2)

-- a small number fits 32 bits
pub size_fits : (z : ℤ) → nat_abs z ≤ 16384 → SFits w32 z
size_fits z h = parts_fit z (omega (arith, size_parts z)) (omega (arith, size_parts z))

pub size_read : (z : ℤ) → nat_abs z ≤ 16384 → to_z w32 (of_z w32 z) ≡ z
size_read z h = to_z-of_z w32 z (size_fits z h)

-- the sum of two numbers, as the machine adds them
module _ (x y : ℤ) (h : nat_abs x ≤ 8192) (k : nat_abs y ≤ 8192) where
  pub sum_is : to_z w32 (of_z w32 x) +ℤ to_z w32 (of_z w32 y) ≡ x +ℤ y
  sum_is = ap₂ ◌+ℤ◌ (size_read x (omega arith)) (size_read y (omega arith))

  pub sum_fits : SFits w32 (to_z w32 (of_z w32 x) +ℤ to_z w32 (of_z w32 y))
  sum_fits = subst (SFits w32) (sym sum_is) (size_fits (x +ℤ y) (omega (arith, size_add x y)))
