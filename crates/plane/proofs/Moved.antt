-- Where a block is read: an origin in range, moved by the whole samples of a vector component in range. Assumes nothing.
use Prim.Native.Nat.{ℕ, suc, ◌≤◌}
use native.Mathlib.Omega.{arith}
use mathlib.Core.Bool.{true}
use mathlib.Core.Path.{◌≡◌}
use lib.IntN.{ℤ, pos, negsuc, ◌+ℤ◌}
use lib.Signed.{mag, shr_z, mag_shr}
use mir.Syntax.{w32}
use mir.Val.{SFits}
use Rattle.basis.specs.Parts.{above, below}
use Rattle.basis.proofs.Parts.{sides, above-add, below-add, parts_fit}
use Rattle.refusal.specs.Test.{in_range}
use Rattle.refusal.proofs.Tests.{range-low, range-high}

above_mag : (z : ℤ) → above z ≤ mag z
above_mag (pos n) = omega arith
above_mag (negsuc n) = omega arith

below_mag : (z : ℤ) → below z ≤ suc (mag z)
below_mag (pos n) = omega arith
below_mag (negsuc n) = omega arith

mag_parts : (z : ℤ) → mag z ≤ 2047 → (above z ≤ 2047) × (below z ≤ 2048)
mag_parts z h = (omega (arith, above_mag z), omega (arith, below_mag z))

in_range_is : (m : ℤ) → in_range (negsuc 2047) (pos 2047) m ≡ true → mag m ≤ 2047
in_range_is (pos n) e = omega (arith, range-high (negsuc 2047) (pos 2047) (pos n) e)
in_range_is (negsuc n) e = omega (arith, range-low (negsuc 2047) (pos 2047) (negsuc n) e)

-- the sum fits 32 bits, however many vector units a sample has
pub moved_fits : (o m : ℤ) (units : ℕ) → in_range (negsuc 4095) (pos 4096) o ≡ true → in_range (negsuc 2047) (pos 2047) m ≡ true
    → SFits w32 (o +ℤ shr_z m units)
moved_fits o m units e f =
    let l = range-low (negsuc 4095) (pos 4096) o e in
    let h = range-high (negsuc 4095) (pos 4096) o e in
    let p : mag (shr_z m units) ≤ 2047 = omega (arith, mag_shr m units, in_range_is m f) in
    let q = mag_parts (shr_z m units) p in
    parts_fit (o +ℤ shr_z m units) (omega (arith, above-add o (shr_z m units), sides o, q.0)) (omega (arith, below-add o (shr_z m units), sides o, q.1))
