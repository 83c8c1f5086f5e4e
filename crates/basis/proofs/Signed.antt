-- A signed local holds bits, so each test and cast of it speaks of what the machine reads back from them, `to_z w (of_z w z)`.
-- These laws take such a fact to the number's two parts, which `omega` reads. A literal's bits are `of_z w` of it by computation.
-- Assumes nothing.
use Prim.Native.Nat.{ℕ, zero, suc, ◌+◌, ◌-◌, ◌<◌, ◌≤◌, ◌^◌}
use native.Mathlib.Omega.{arith}
use mathlib.Core.Bool.{Bool, true, false}
use mathlib.Core.Path.{◌≡◌, refl, sym, ap, ap₂, ◌∙◌, subst}
use lib.Dec.{T, ltb}
use lib.IntN.{ℤ, pos, negsuc, nat_abs, neg_ℤ, ◌-ℤ◌, +ℤ_idl}
use lib.Signed.{lt_z, le_z, non_neg, mag}
use mir.Syntax.{Width, w32}
use mir.Val.{SFits, Fits, to_z, of_z, bits, hbits}
use mir.ValLaws.{to_z-of_z, to_z_pos}
use mir.Facts.{Fits-nat_abs, sfits_lit}
use Rattle.basis.specs.Parts.{above, below}
use Rattle.basis.proofs.Parts.{sides, lt_parts, le_parts, parts_lt, parts_le, above-sub, below_sub, parts_fit, fits_above, fits_below, below_non_neg, nat_abs-above}

yes : {t : Bool} → t ≡ true → T t
yes e = subst T (sym e) tt

true_false : (t : Bool) → t ≡ false → T t → ⊥
true_false t e h = subst T e h

pub lt_true : (x y : ℤ) → lt_z x y ≡ true → above x + below y < above y + below x
lt_true x y e = lt_parts x y (yes e)

pub le_true : (x y : ℤ) → le_z x y ≡ true → above x + below y ≤ above y + below x
le_true x y e = le_parts x y (yes e)

-- and back
pub le_is : (x y : ℤ) → above x + below y ≤ above y + below x → le_z x y ≡ true
le_is x y h = holds (le_z x y) (parts_le x y h)
  where
    holds : (t : Bool) → T t → t ≡ true
    holds true h = refl
    holds false h = absurd h

not_lt : (a b : ℕ) → (a < b → ⊥) → b ≤ a
not_lt a b h = omega (arith, h)

pub lt_false : (x y : ℤ) → lt_z x y ≡ false → above y + below x ≤ above x + below y
lt_false x y e = not_lt (above x + below y) (above y + below x) (λ h. true_false (lt_z x y) e (parts_lt x y h))

module _ (w : Width) (x y : ℤ) (fx : SFits w x) (fy : SFits w y) where
  -- the test  x < y  of two signed locals
  pub lt_read : lt_z (to_z w (of_z w x)) (to_z w (of_z w y)) ≡ lt_z x y
  lt_read = ap₂ lt_z (to_z-of_z w x fx) (to_z-of_z w y fy)

  pub le_read : le_z (to_z w (of_z w x)) (to_z w (of_z w y)) ≡ le_z x y
  le_read = ap₂ le_z (to_z-of_z w x fx) (to_z-of_z w y fy)

-- a cast of a signed local to an unsigned type of more bits than the number's own less one
pub cast_read : (w w' : Width) (z : ℤ) → T (ltb (hbits w) (bits w')) → SFits w z → below z ≡ 0
    → T (non_neg (to_z w (of_z w z))) × Fits w' (nat_abs (to_z w (of_z w z)))
cast_read w w' z t f e =
    subst (λ (v : ℤ). T (non_neg v) × Fits w' (nat_abs v)) (sym (to_z-of_z w z f)) (below_non_neg z e, Fits-nat_abs t f)

pub cast_value : (w : Width) (z : ℤ) → SFits w z → below z ≡ 0 → nat_abs (to_z w (of_z w z)) ≡ above z
cast_value w z f e = ap nat_abs (to_z-of_z w z f) ∙ nat_abs-above z e

-- a signed field of a struct, whose range a proof is given as a bound on its size
pub of_bits_lem : (z : ℤ) → mag z < 2 ^ 31 → to_z w32 (of_z w32 z) ≡ z
of_bits_lem z h = to_z-of_z w32 z (record { sfits = h })

-- the negative of a number at 32 bits, as the code's `0 - n` gives it
module _ (n : ℕ) (h : n < 2 ^ 31) where
  negative_is : pos 0 -ℤ to_z w32 n ≡ neg_ℤ (pos n)
  negative_is = ap (λ (z : ℤ). pos 0 -ℤ z) (to_z_pos w32 n h) ∙ +ℤ_idl (neg_ℤ (pos n))

  pub negative_fits : SFits w32 (pos 0 -ℤ to_z w32 n)
  negative_fits = subst (SFits w32) (sym negative_is) (fits n h)
    where
      fits : (n : ℕ) → n < 2 ^ 31 → SFits w32 (neg_ℤ (pos n))
      fits zero h = sfits_lit tt
      fits (suc n) h = record { sfits = omega arith }

  pub negative_read : to_z w32 (of_z w32 (pos 0 -ℤ to_z w32 n)) ≡ neg_ℤ (pos n)
  negative_read = to_z-of_z w32 (pos 0 -ℤ to_z w32 n) negative_fits ∙ negative_is

-- x turned about the middle of -1 and 0, as the code's `-1 - x` gives it, fits where x does
pub turned_fits : (w : Width) (x : ℤ) → SFits w x → SFits w (negsuc 0 -ℤ x)
turned_fits w x f =
    parts_fit (negsuc 0 -ℤ x)
    (omega (arith, above-sub (negsuc 0) x, fits_above x f, fits_below x f))
    (omega (arith, below_sub (negsuc 0) x, fits_above x f))

-- the difference of two numbers at 32 bits, as the code's `a as i32 - b as i32` gives it
module _ (a b : ℕ) (h : a < 2 ^ 31) (k : b < 2 ^ 31) where
  minus_is : to_z w32 a -ℤ to_z w32 b ≡ pos a -ℤ pos b
  minus_is = ap₂ ◌-ℤ◌ (to_z_pos w32 a h) (to_z_pos w32 b k)

  pub minus_above : above (to_z w32 a -ℤ to_z w32 b) ≡ a - b
  minus_above = ap above minus_is ∙ above-sub (pos a) (pos b) ∙ omega arith

  pub minus_below : below (to_z w32 a -ℤ to_z w32 b) ≡ b - a
  minus_below = ap below minus_is ∙ below_sub (pos a) (pos b) ∙ omega arith

  pub minus_fits : SFits w32 (to_z w32 a -ℤ to_z w32 b)
  minus_fits = parts_fit (to_z w32 a -ℤ to_z w32 b) (omega (arith, minus_above)) (omega (arith, minus_below))

-- a number with its sign turned, as the code's `0 - x` gives it
module _ (w : Width) (x : ℤ) (f : SFits w x) where
  turned_is : pos 0 -ℤ to_z w (of_z w x) ≡ pos 0 -ℤ x
  turned_is = ap (λ (z : ℤ). pos 0 -ℤ z) (to_z-of_z w x f)

  pub turned_above : above (pos 0 -ℤ to_z w (of_z w x)) ≡ below x
  turned_above = ap above turned_is ∙ above-sub (pos 0) x ∙ omega (arith, sides x)

  pub turned_below : below (pos 0 -ℤ to_z w (of_z w x)) ≡ above x
  turned_below = ap below turned_is ∙ below_sub (pos 0) x ∙ omega (arith, sides x)
