-- Whether a number is a product, by its remainder and its quotient. Assumes nothing.
use Prim.Native.Nat.{ℕ, ◌*◌, ◌/◌, ◌%◌}
use native.Mathlib.Omega.{arith}
use native.Mathlib.Nat.{div-add-mod, div-eq_of_eq-mul_right, mul-mod_right, zero-mul}
use mathlib.Core.Bool.{false}
use mathlib.Core.Path.{◌≡◌, sym, ap, ◌∙◌}
use lib.Dec.{eqb}
use borrow.Author.Tests.{ne_eqb}
use Rattle.basis.proofs.Case.{eqb_same}

-- no width
pub product_none : (n w h : ℕ) → w ≡ 0 → eqb n 0 ≡ eqb n (w * h)
product_none n w h e = ap (eqb n) (sym (ap (λ (k : ℕ). k * h) e ∙ zero-mul h))

-- a width that leaves a rest, and one that leaves none
pub product_rest : (n w h : ℕ) → (n % w ≡ 0 → ⊥) → false ≡ eqb n (w * h)
product_rest n w h t = sym (ne_eqb n (w * h) (λ e. t (ap (λ (m : ℕ). m % w) e ∙ mul-mod_right w h)))

pub product_whole : (n w h : ℕ) → (w ≡ 0 → ⊥) → n % w ≡ 0 → eqb (n / w) h ≡ eqb n (w * h)
product_whole n w h t z =
    eqb_same (n / w) h n (w * h) (λ e. whole ∙ ap (λ (k : ℕ). w * k) e) (λ e. div-eq_of_eq-mul_right (omega (arith, t)) e)
  where
    whole : n ≡ w * (n / w)
    whole = omega (arith, div-add-mod n w)
