-- The second method's quotient, by the quantiser's reciprocal. Assumes nothing.
use Prim.Native.Nat.{ℕ, ◌+◌, ◌-◌, ◌*◌, ◌/◌, ◌%◌, ◌≤◌, ◌<◌, min}
use native.Mathlib.Nat.{lt_of_le_of_lt, mod-lt, div-add-mod', add-div_right, div-le_self, div-div-eq-div-mul}
use native.Mathlib.Omega.{arith}
use mathlib.Core.Path.{◌≡◌, sym, ap, subst, ◌∙◌}
use lib.Dec.{lit<}
use Rattle.basis.proofs.Bounds.{product_le}
use Rattle.basis.proofs.Division.{by_reciprocal}
use lib.IntN.{ℤ, nat_abs}
use Rattle.basis.specs.Signed.{signed}
use Rattle.quantise.specs.Level.{level_by_quantiser}
use Rattle.quantise.specs.Told.{reciprocal_of, Quantisable}
use Rattle.quantise.proofs.Signs.{signed_cut}

pub reciprocal_most : (q : ℕ) → 1 ≤ q → reciprocal_of q ≤ 32768
reciprocal_most q h = let e : reciprocal_of q ≡ 32767 / q + 1 = add-div_right 32767 h in omega (arith, div-le_self 32767 q)

-- n is at most 2,048, so half of it times what the reciprocal is too large by, at most 30, stays below 2 ^ 15
pub halved_quotient : (n q by : ℕ) → n ≤ 2048 → 1 ≤ q → q ≤ 31 → by ≡ reciprocal_of q → n / 2 * by / 32768 ≡ n / (2 * q)
halved_quotient n q by small some most is =
    let whole : reciprocal_of q * q + (32767 + q) % q ≡ 32767 + q = div-add-mod' (32767 + q) q in
    let rest : (32767 + q) % q < q = mod-lt (32767 + q) some in
    let more = reciprocal_of q * q - 32768 in
    let at_most : more ≤ 30 = omega arith in
    let product : by * q ≡ 32768 + more = ap (λ (m : ℕ). m * q) is ∙ omega arith in
    let under : n / 2 * more ≤ 1024 * 30 = product_le {a = n / 2} {b = more} {m = 1024} {n = 30} (omega arith) at_most in
    by_reciprocal (n / 2) q by more 32768 some (lit< tt) product (lt_of_le_of_lt under (lit< tt)) ∙ div-div-eq-div-mul n 2 q

-- the product fits
pub halved_product : (n q by : ℕ) → n ≤ 2048 → 1 ≤ q → by ≡ reciprocal_of q → n / 2 * by ≤ 33554432
halved_product n q by small some is = product_le {a = n / 2} {b = by} {m = 1024} {n = 32768} (omega arith) (subst (λ (m : ℕ). m ≤ 32768) (sym is) (reciprocal_most q some))

-- a level by the reciprocal: it is not cut
pub second_level : (f : ℤ) (q by : ℕ) → Quantisable f q by → signed f ((nat_abs f - q / 2) / 2 * by / 32768) ≡ level_by_quantiser q f
unfolding level_by_quantiser
second_level f q by s =
    let n = nat_abs f - q / 2 in
    let small : n ≤ 2048 = omega (arith, s.small) in
    let is : n / 2 * by / 32768 ≡ n / (2 * q) = halved_quotient n q by small s.quantiser_some s.quantiser_most s.by_is in
    let product : n / 2 * by ≤ 33554432 = halved_product n q by small s.quantiser_some s.by_is in
    let under : n / 2 * by / 32768 ≡ min (n / (2 * q)) 2047 = omega arith in
    ap (signed f) under ∙ sym (signed_cut f (n / (2 * q)))
