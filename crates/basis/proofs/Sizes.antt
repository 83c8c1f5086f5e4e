-- Sizes of signed numbers: of sums and multiples, and of a size with a sign put on. Assumes nothing.
use Prim.Native.Nat.{ℕ, ◌+◌, ◌*◌, ◌≤◌}
use native.Mathlib.Omega.{arith}
use mathlib.Core.Bool.{true, false}
use mathlib.Core.Path.{◌≡◌, refl, ◌∙◌}
use lib.IntN.{ℤ, pos, negsuc, neg_ℤ, nat_abs, ◌+ℤ◌, ◌*ℤ◌}
use lib.Signed.{lt_z}
use Rattle.basis.specs.Signed.{signed}
use Rattle.basis.proofs.Parts.{size_parts, above-add, below-add, above-mul, below-mul, above-neg, below-neg}
use Rattle.basis.proofs.Signed.{lt_true, lt_false}

-- a sum is no larger than its terms' sizes together
pub size_add : (x y : ℤ) → nat_abs (x +ℤ y) ≤ nat_abs x + nat_abs y
size_add x y = omega (arith, size_parts (x +ℤ y), size_parts x, size_parts y, above-add x y, below-add x y)

-- a multiple
pub size_times : (z : ℤ) (k : ℕ) → nat_abs (z *ℤ pos k) ≡ nat_abs z * k
size_times (pos a) k = refl
size_times (negsuc a) k = size_parts (negsuc a *ℤ pos k) ∙ omega (arith, above-mul (negsuc a) k, below-mul (negsuc a) k)

-- a size with a sign put on
pub size_signed : (z : ℤ) (n : ℕ) → nat_abs (signed z n) ≡ n
size_signed (pos a) n = refl
size_signed (negsuc a) n = size_parts (neg_ℤ (pos n)) ∙ omega (arith, above-neg (pos n), below-neg (pos n))

pub signed_below : (z : ℤ) (n : ℕ) → lt_z z (pos 0) ≡ true → neg_ℤ (pos n) ≡ signed z n
signed_below (pos a) n t = absurd (omega (arith, lt_true (pos a) (pos 0) t))
signed_below (negsuc a) n t = refl

pub signed_above : (z : ℤ) (n : ℕ) → lt_z z (pos 0) ≡ false → pos n ≡ signed z n
signed_above (pos a) n t = refl
signed_above (negsuc a) n t = absurd (omega (arith, lt_false (negsuc a) (pos 0) t))
