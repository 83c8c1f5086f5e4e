-- A size cut by its sign is the signed number cut to -2,048..2,047. Assumes nothing.
use Prim.Native.Nat.{ℕ, min}
use native.Mathlib.Omega.{arith}
use mathlib.Core.Bool.{Bool, true, false}
use mathlib.Core.Path.{◌≡◌, refl, ap, ◌∙◌}
use borrow.Author.Tests.{ltb-true, ltb-false}
use lib.Dec.{ltb}
use lib.IntN.{pos, negsuc, neg_ℤ}
use Rattle.basis.specs.Cut.{cut_to}
use Rattle.basis.proofs.Cut.{cut_low, cut_high, cut_none}
use Rattle.basis.proofs.Parts.{above-neg, below-neg}
use Rattle.fdct.specs.Rounding.{with_sign}
use Rattle.fdct.specs.Told.{cut_size}

pub cut_size_lem : (minus : Bool) (n : ℕ) → cut_to (negsuc 2047) (pos 2047) (with_sign minus n) ≡ cut_size minus n
cut_size_lem false n = by (ltb n 2047) refl
  where
    by : (t : Bool) → ltb n 2047 ≡ t → cut_to (negsuc 2047) (pos 2047) (pos n) ≡ pos (min n 2047)
    by true e =
        let h = ltb-true n 2047 e in
        cut_none (negsuc 2047) (pos 2047) (pos n) (omega arith) (omega arith) ∙ ap pos (let k : n ≡ min n 2047 = omega arith in k)
    by false e =
        let h = ltb-false n 2047 e in
        cut_high (negsuc 2047) (pos 2047) (pos n) (omega arith) (omega arith) ∙ ap pos (let k : 2047 ≡ min n 2047 = omega arith in k)
cut_size_lem true n = by (ltb n 2048) refl
  where
    by : (t : Bool) → ltb n 2048 ≡ t → cut_to (negsuc 2047) (pos 2047) (neg_ℤ (pos n)) ≡ neg_ℤ (pos (min n 2048))
    by true e =
        let h = ltb-true n 2048 e in
        let a = above-neg (pos n) in
        let b = below-neg (pos n) in
        cut_none (negsuc 2047) (pos 2047) (neg_ℤ (pos n)) (omega arith) (omega arith)
        ∙ ap (λ (j : ℕ). neg_ℤ (pos j)) (let k : n ≡ min n 2048 = omega arith in k)
    by false e =
        let h = ltb-false n 2048 e in
        let a = above-neg (pos n) in
        let b = below-neg (pos n) in
        cut_low (negsuc 2047) (pos 2047) (neg_ℤ (pos n)) (omega arith) (omega arith)
        ∙ ap (λ (j : ℕ). neg_ℤ (pos j)) (let k : 2048 ≡ min n 2048 = omega arith in k)
