-- Laws of division rounded down: what a quotient is, a division as a product by a reciprocal, and a multiple of the divisor, which comes
-- back whole, with no rest. Assumes nothing.
use Prim.Native.Nat.{ℕ, suc, ◌+◌, ◌-◌, ◌*◌, ◌/◌, ◌%◌, ◌≤◌, ◌<◌}
use native.Mathlib.Omega.{arith}
use native.Mathlib.Nat.{zero-lt-suc, mul-div_cancel, mul-add-div_right, mul-add-mod_self_right, mod-eq_of_lt, div-eq_of_lt, mul-mod_left}
use native.Mathlib.Nat.{le_antisymm, le_of_suc-le-suc, mod-lt, div-add-mod', div-lt_iff_lt-mul, le-div_iff_mul-le}
use native.Mathlib.Nat.{mul-le-mul_right, le_of_mul-le-mul_right, lt_of_mul-lt-mul_right}
use mathlib.Core.Path.{◌≡◌, ap, ◌∙◌}
use lib.IntN.{ℤ, pos, negsuc, neg_ℤ, ◌*ℤ◌}
use lib.Signed.{shr_z}
use Rattle.basis.specs.Parts.{above, below}
use Rattle.basis.specs.Division.{rest_z}
use Rattle.basis.proofs.Parts.{ext, above-mul, below-mul, above-shr, below-shr}

pub quotient_is : (n d q : ℕ) → 0 < d → q * d ≤ n → n < suc q * d → n / d ≡ q
quotient_is n d q D low high = le_antisymm (le_of_suc-le-suc ((div-lt_iff_lt-mul D).1 high)) ((le-div_iff_mul-le D).1 low)

-- m, the reciprocal of d in parts of K, is by r / d too large; while n times r is below K, n m / K is n / d
pub by_reciprocal : (n d m r K : ℕ) → 0 < d → 0 < K → m * d ≡ K + r → n * r < K → n * m / K ≡ n / d
by_reciprocal n d m r K D some e h =
    let q = n / d in
    let whole : q * d + n % d ≡ n = div-add-mod' n d in
    let rest : n % d < d = mod-lt n D in
    let product : n * (m * d) ≡ n * (K + r) = ap (λ (z : ℕ). n * z) e in
    let under : q * d * K ≤ n * K = mul-le-mul_right K (omega arith) in
    let over : (n + 1) * K ≤ suc q * d * K = mul-le-mul_right K (omega arith) in
    quotient_is (n * m) K q some
    (le_of_mul-le-mul_right (let low : q * K * d ≤ n * m * d = omega arith in low) D)
    (lt_of_mul-lt-mul_right d (let high : n * m * d < suc q * K * d = omega arith in high))

pub shr_whole : (d : ℤ) (m : ℕ) → shr_z (d *ℤ pos (suc m)) (suc m) ≡ d
shr_whole d m =
    ext (shr_z (d *ℤ pos (suc m)) (suc m)) d
    (above-shr (d *ℤ pos (suc m)) (suc m) ∙ ap (λ (n : ℕ). n / suc m) (above-mul d (suc m)) ∙ mul-div_cancel (above d) (zero-lt-suc m))
    (below-shr (d *ℤ pos (suc m)) m ∙ ap (λ (n : ℕ). (n + m) / suc m) (below-mul d (suc m)) ∙ mul-add-div_right (zero-lt-suc m) (below d) m ∙ none)
  where
    none : below d + m / suc m ≡ below d
    none = omega (arith, div-eq_of_lt {n = m} {m = suc m} (omega arith))

pub rest_whole : (d : ℤ) (m : ℕ) → rest_z (d *ℤ pos (suc m)) (suc m) ≡ 0
rest_whole (pos n) m = mul-mod_left n (suc m)
rest_whole (negsuc n) m = ap (λ (k : ℕ). rest_z (neg_ℤ (pos k)) (suc m)) (next n m) ∙ ap (λ (k : ℕ). suc m - 1 - k) last ∙ omega arith
  where
    next : (n m : ℕ) → suc n * suc m ≡ suc (n * suc m + m)
    next n m = omega arith

    last : (n * suc m + m) % suc m ≡ m
    last = mul-add-mod_self_right n (suc m) m ∙ mod-eq_of_lt (omega arith)
