-- Sizes with a sign, cut; and std's clamp. Assumes nothing.
use Prim.Native.Nat.{ℕ, zero, suc, ◌/◌, ◌≤◌, ◌<◌, min}
use native.Mathlib.Nat.{zero-div}
use native.Mathlib.Omega.{arith}
use mathlib.Core.Path.{◌≡◌, refl, sym, ap, ◌∙◌}
use lib.IntN.{ℤ, pos, negsuc, neg_ℤ}
use lib.Signed.{◌≤ℤ◌, quot_z}
use Rattle.std.specs.Int.{int_max, int_min}
use Rattle.std.proofs.lemmas.Int.{ints}
use Rattle.basis.specs.Parts.{above, below}
use Rattle.basis.proofs.Case.{either}
use Rattle.basis.proofs.Cut.{cut_low, cut_high, cut_none}
use Rattle.basis.proofs.Parts.{above-neg, below-neg}
use Rattle.basis.specs.Cut.{cut_to}
use Rattle.basis.specs.Signed.{signed}

-- std's clamp is the definitions' cut
pub clamped : (low high z : ℤ) → low ≤ℤ high → int_max low (int_min z high) ≡ cut_to low high z
clamped low high z h = grind (arith, ints)

-- a size with a sign is cut at its end
pub cut-above : (low : ℤ) (n most : ℕ) → above low ≡ 0 → cut_to low (pos most) (pos n) ≡ pos (min n most)
cut-above low n most none =
    either _ n most
    (λ k. cut_none low (pos most) (pos n) (omega arith) (omega arith) ∙ ap pos (whole k))
    (λ k. cut_high low (pos most) (pos n) (omega arith) (omega arith) ∙ ap pos (part k))
  where
    whole : n ≤ most → n ≡ min n most
    whole k = omega arith

    part : most < n → most ≡ min n most
    part k = omega arith

pub cut_below : (high : ℤ) (n most : ℕ) → below high ≡ 0 → cut_to (neg_ℤ (pos most)) high (neg_ℤ (pos n)) ≡ neg_ℤ (pos (min n most))
cut_below high n most none =
    let low = neg_ℤ (pos most) in
    let z = neg_ℤ (pos n) in
    let a = above-neg (pos most) in
    let b = below-neg (pos most) in
    let c = above-neg (pos n) in
    let d = below-neg (pos n) in
    either _ n most
    (λ k. cut_none low high z (omega arith) (omega arith) ∙ ap (λ (m : ℕ). neg_ℤ (pos m)) (whole k))
    (λ k. cut_low low high z (omega arith) (omega arith) ∙ ap (λ (m : ℕ). neg_ℤ (pos m)) (part k))
  where
    whole : n ≤ most → n ≡ min n most
    whole k = omega arith

    part : most < n → most ≡ min n most
    part k = omega arith

-- a level is cut
pub signed_cut : (f : ℤ) (m : ℕ) → cut_to (negsuc 2046) (pos 2047) (signed f m) ≡ signed f (min m 2047)
signed_cut (pos a) m = cut-above (negsuc 2046) m 2047 refl
signed_cut (negsuc a) m = cut_below (pos 2047) m 2047 refl

-- division toward 0 keeps the sign
pub signed_quot : (f : ℤ) (m d : ℕ) → quot_z (signed f m) (pos d) ≡ signed f (m / d)
signed_quot (pos a) m d = refl
signed_quot (negsuc a) zero d = ap pos (zero-div d) ∙ ap (λ (n : ℕ). neg_ℤ (pos n)) (sym (zero-div d))
signed_quot (negsuc a) (suc m) d = refl
