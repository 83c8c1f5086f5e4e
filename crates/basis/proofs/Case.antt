-- Laws of definitions that go by tests: a case is chosen by what the test is.
-- Assumes nothing.
use mathlib.Core.Path.{◌≡◌, refl, ap, ◌∙◌, sym}
use mathlib.Core.Bool.{Bool, true, false, cond, ◌&&◌, ◌||◌}
use Prim.Native.Nat.{ℕ, ◌≤◌, ◌<◌}
use native.Mathlib.Omega.{arith}
use lib.Dec.{eqb, leb, ltb}
use borrow.Author.Tests.{eqb-true, eqb-false, eq-eqb, ne_eqb, leb-true, leb-false, le-leb, ltb-true, ltb-false}

pub then : {X : Type 0} (t : Bool) (x y : X) → t ≡ true → cond t x y ≡ x
then t x y e = ap (λ (b : Bool). cond b x y) e

pub else : {X : Type 0} (t : Bool) (x y : X) → t ≡ false → cond t x y ≡ y
else t x y e = ap (λ (b : Bool). cond b x y) e

pub both : {a b : Bool} → a ≡ true → b ≡ true → (a && b) ≡ true
both {a} {b} p q = ap (λ (t : Bool). t && b) p ∙ q

pub first_fails : {a : Bool} (b : Bool) → a ≡ false → (a && b) ≡ false
first_fails b p = ap (λ (t : Bool). t && b) p

and_false : (a : Bool) → (a && false) ≡ false
and_false true = refl
and_false false = refl

pub second_fails : (a : Bool) {b : Bool} → b ≡ false → (a && b) ≡ false
second_fails a p = ap (λ (t : Bool). a && t) p ∙ and_false a

-- one of two holds, and it is not the first
pub second_holds : (a b : Bool) → a ≡ false → (a || b) ≡ true → b ≡ true
second_holds true b e h = absurd (let z : ◌≡◌ {A = ℕ} 0 1 = cc in omega arith)
second_holds false b e h = h

pub or_right : (a b : Bool) → b ≡ true → (a || b) ≡ true
or_right true b e = refl
or_right false b e = e

-- two tests of equality agree where each equation follows from the other
pub eqb_same : (a b c d : ℕ) → (a ≡ b → c ≡ d) → (c ≡ d → a ≡ b) → eqb a b ≡ eqb c d
eqb_same a b c d f g = by (eqb a b) refl
  where
    by : (t : Bool) → eqb a b ≡ t → eqb a b ≡ eqb c d
    by true e = e ∙ sym (eq-eqb c d (f (eqb-true a b e)))
    by false e = e ∙ sym (ne_eqb c d (λ q. eqb-false a b e (g q)))

-- two tests of order agree where each fact follows from the other
pub leb_same : (a b c d : ℕ) → (a ≤ b → c ≤ d) → (c ≤ d → a ≤ b) → leb a b ≡ leb c d
leb_same a b c d f g = by (leb a b) (leb c d) refl refl
  where
    by : (t u : Bool) → leb a b ≡ t → leb c d ≡ u → leb a b ≡ leb c d
    by true u p q = p ∙ sym (le-leb c d (f (leb-true a b p)))
    by false true p q = absurd (omega (arith, leb-false a b p, g (leb-true c d q)))
    by false false p q = p ∙ sym q

-- a case for each outcome of a comparison
pub either : (P : Type 0) (a b : ℕ) → (a ≤ b → P) → (b < a → P) → P
either P a b f g = by (ltb b a) refl
  where
    by : (t : Bool) → ltb b a ≡ t → P
    by true e = g (ltb-true b a e)
    by false e = f (ltb-false b a e)
