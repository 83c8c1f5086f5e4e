-- Laws of an integer's two parts, `above` and `below`. Each turns a fact on ℤ into facts on ℕ, which `omega` reads; `-` is cut off
-- at 0. Assumes nothing.
use Prim.Native.Nat.{ℕ, zero, suc, ◌+◌, ◌-◌, ◌*◌, ◌/◌, ◌^◌, ◌<◌, ◌≤◌}
use native.Mathlib.Omega.{arith}
use native.Mathlib.Nat.{zero-div, add-div_right, div-eq_of_lt, zero-lt-suc}
use mathlib.Core.Path.{◌≡◌, refl, sym, ap, ◌∙◌}
use mathlib.Core.Bool.{Bool, true, false, not, cond}
use lib.Dec.{T, ltb, ltb→lt, nltb→le, leb→le, le→leb, lt→ltb}
use lib.IntN.{ℤ, pos, negsuc, neg_ℤ, sub_ℕ, nat_abs, ◌+ℤ◌, ◌-ℤ◌, ◌*ℤ◌}
use lib.Signed.{lt_z, le_z, shr_z, quot_z, non_neg}
use Rattle.basis.specs.Parts.{above, below}
use mir.Syntax.{Width}
use mir.Val.{SFits, hbits}

-- one of the two is 0
pub sides : (z : ℤ) → above z - below z ≡ above z
sides (pos n) = omega arith
sides (negsuc n) = omega arith

-- equal parts, equal numbers
pub ext : (x y : ℤ) → above x ≡ above y → below x ≡ below y → x ≡ y
ext (pos a) (pos b) p q = ap pos p
ext (pos a) (negsuc b) p q = absurd (omega arith)
ext (negsuc a) (pos b) p q = absurd (omega arith)
ext (negsuc a) (negsuc b) p q = ap negsuc (omega arith)

-- ---- the operations

cond_ind : (t : Bool) (x y : ℤ) (P : ℤ → Type 0) → (T t → P x) → (T (not t) → P y) → P (cond t x y)
cond_ind true x y P f g = f tt
cond_ind false x y P f g = g tt

above_subℕ : (a b : ℕ) → above (sub_ℕ a b) ≡ a - b
above_subℕ a b =
    cond_ind (ltb a b) (negsuc (b - suc a)) (pos (a - b)) (λ z. above z ≡ a - b)
    (λ t. omega (arith, ltb→lt a b t)) (λ t. refl)

below_subℕ : (a b : ℕ) → below (sub_ℕ a b) ≡ b - a
below_subℕ a b =
    cond_ind (ltb a b) (negsuc (b - suc a)) (pos (a - b)) (λ z. below z ≡ b - a)
    (λ t. omega (arith, ltb→lt a b t)) (λ t. omega (arith, nltb→le a b t))

pub above-add : (x y : ℤ) → above (x +ℤ y) ≡ (above x + above y) - (below x + below y)
above-add (pos a) (pos b) = omega arith
above-add (pos a) (negsuc b) = above_subℕ a (suc b) ∙ omega arith
above-add (negsuc a) (pos b) = above_subℕ b (suc a) ∙ omega arith
above-add (negsuc a) (negsuc b) = omega arith

pub below-add : (x y : ℤ) → below (x +ℤ y) ≡ (below x + below y) - (above x + above y)
below-add (pos a) (pos b) = omega arith
below-add (pos a) (negsuc b) = below_subℕ a (suc b) ∙ omega arith
below-add (negsuc a) (pos b) = below_subℕ b (suc a) ∙ omega arith
below-add (negsuc a) (negsuc b) = omega arith

pub above-neg : (z : ℤ) → above (neg_ℤ z) ≡ below z
above-neg (pos zero) = refl
above-neg (pos (suc n)) = refl
above-neg (negsuc n) = refl

pub below-neg : (z : ℤ) → below (neg_ℤ z) ≡ above z
below-neg (pos zero) = refl
below-neg (pos (suc n)) = refl
below-neg (negsuc n) = refl

pub above-sub : (x y : ℤ) → above (x -ℤ y) ≡ (above x + below y) - (below x + above y)
above-sub x y = above-add x (neg_ℤ y) ∙ omega (arith, above-neg y, below-neg y)

pub below_sub : (x y : ℤ) → below (x -ℤ y) ≡ (below x + above y) - (above x + below y)
below_sub x y = below-add x (neg_ℤ y) ∙ omega (arith, above-neg y, below-neg y)

above_negpos : (n : ℕ) → above (neg_ℤ (pos n)) ≡ 0
above_negpos n = above-neg (pos n)

below_negpos : (n : ℕ) → below (neg_ℤ (pos n)) ≡ n
below_negpos n = below-neg (pos n)

-- a product with a number that is not negative
pub above-mul : (x : ℤ) (k : ℕ) → above (x *ℤ pos k) ≡ above x * k
above-mul (pos a) k = refl
above-mul (negsuc a) k = above_negpos (suc a * k) ∙ omega arith

pub below-mul : (x : ℤ) (k : ℕ) → below (x *ℤ pos k) ≡ below x * k
below-mul (pos a) k = omega arith
below-mul (negsuc a) k = below_negpos (suc a * k)

-- the shift that rounds down, for a divisor that is not 0
pub above-shr : (z : ℤ) (m : ℕ) → above (shr_z z m) ≡ above z / m
above-shr (pos a) m = refl
above-shr (negsuc a) m = sym (zero-div m)

pub below-shr : (z : ℤ) (m : ℕ) → below (shr_z z (suc m)) ≡ (below z + m) / suc m
below-shr (pos a) m = sym (div-eq_of_lt (omega arith))
below-shr (negsuc a) m =
    omega (arith, add-div_right a (zero-lt-suc m), ap (λ (n : ℕ). n / suc m) (regroup a m))
  where
    regroup : (a m : ℕ) → suc a + m ≡ a + suc m
    regroup a m = omega arith

-- ---- the order

pub le_parts : (x y : ℤ) → T (le_z x y) → above x + below y ≤ above y + below x
le_parts (pos a) (pos b) t = omega (arith, leb→le a b t)
le_parts (pos a) (negsuc b) t = absurd t
le_parts (negsuc a) (pos b) t = omega arith
le_parts (negsuc a) (negsuc b) t = omega (arith, leb→le b a t)

pub parts_le : (x y : ℤ) → above x + below y ≤ above y + below x → T (le_z x y)
parts_le (pos a) (pos b) h = le→leb a b (omega arith)
parts_le (pos a) (negsuc b) h = absurd (omega arith)
parts_le (negsuc a) (pos b) h = tt
parts_le (negsuc a) (negsuc b) h = le→leb b a (omega arith)

pub lt_parts : (x y : ℤ) → T (lt_z x y) → above x + below y < above y + below x
lt_parts (pos a) (pos b) t = omega (arith, ltb→lt a b t)
lt_parts (pos a) (negsuc b) t = absurd t
lt_parts (negsuc a) (pos b) t = omega arith
lt_parts (negsuc a) (negsuc b) t = omega (arith, ltb→lt b a t)

pub parts_lt : (x y : ℤ) → above x + below y < above y + below x → T (lt_z x y)
parts_lt (pos a) (pos b) h = lt→ltb a b (omega arith)
parts_lt (pos a) (negsuc b) h = absurd (omega arith)
parts_lt (negsuc a) (pos b) h = tt
parts_lt (negsuc a) (negsuc b) h = lt→ltb b a (omega arith)

-- ---- the range of a width

pub fits_above : {w : Width} (z : ℤ) → SFits w z → above z < 2 ^ hbits w
fits_above (pos n) f = f.sfits
fits_above (negsuc n) f = omega (arith, f.sfits)

pub fits_below : {w : Width} (z : ℤ) → SFits w z → below z ≤ 2 ^ hbits w
fits_below (pos n) f = omega arith
fits_below (negsuc n) f = f.sfits

pub parts_fit : {w : Width} (z : ℤ) → above z < 2 ^ hbits w → below z ≤ 2 ^ hbits w → SFits w z
parts_fit (pos n) h k = record { sfits = h }
parts_fit (negsuc n) h k = record { sfits = k }

-- ---- not negative

pub above-pos : (z : ℤ) → below z ≡ 0 → pos (above z) ≡ z
above-pos (pos n) h = refl
above-pos (negsuc n) h = absurd (omega arith)

pub nat_abs-above : (z : ℤ) → below z ≡ 0 → nat_abs z ≡ above z
nat_abs-above (pos n) h = refl
nat_abs-above (negsuc n) h = absurd (omega arith)

pub below_non_neg : (z : ℤ) → below z ≡ 0 → T (non_neg z)
below_non_neg (pos n) h = tt
below_non_neg (negsuc n) h = absurd (omega arith)

-- the size is both parts together
pub size_parts : (z : ℤ) → nat_abs z ≡ above z + below z
size_parts (pos a) = omega arith
size_parts (negsuc a) = omega arith

-- ---- long sums: z is p - n. Sums of such differences add side by side, with no case split

pub record Diff (z : ℤ) (p n : ℕ) : Type 0 where
  pub same : above z + n ≡ p + below z

pub diff_pos : (k : ℕ) → Diff (pos k) k 0
diff_pos k = record { same = omega arith }

pub diff_neg : (k : ℕ) → Diff (neg_ℤ (pos k)) 0 k
diff_neg k = record { same = omega (arith, above-neg (pos k), below-neg (pos k)) }

pub diff_add : {x y : ℤ} {p n q m : ℕ} → Diff x p n → Diff y q m → Diff (x +ℤ y) (p + q) (n + m)
diff_add {x} {y} d e =
    record { same = omega (arith, above-add x y, below-add x y, d.same, e.same, sides x, sides y) }

pub diff_above : {z : ℤ} {p n : ℕ} → Diff z p n → above z ≡ p - n
diff_above {z} d = omega (arith, d.same, sides z)

-- ---- differences of naturals, products in long sums, and the division toward zero

-- the difference of two naturals
pub difference_low : (a b : ℕ) → a < b → pos a -ℤ pos b ≡ negsuc (b - suc a)
difference_low a b h =
    ext (pos a -ℤ pos b) (negsuc (b - suc a)) (above-sub (pos a) (pos b) ∙ omega arith) (below_sub (pos a) (pos b) ∙ omega arith)

pub difference_high : (a b : ℕ) → b ≤ a → pos a -ℤ pos b ≡ pos (a - b)
difference_high a b h =
    ext (pos a -ℤ pos b) (pos (a - b)) (above-sub (pos a) (pos b) ∙ omega arith) (below_sub (pos a) (pos b) ∙ omega arith)

-- a product, as one term of a long sum
pub diff_mul : (x : ℤ) (k : ℕ) → Diff (x *ℤ pos k) (above x * k) (below x * k)
diff_mul x k = record { same = omega (arith, above-mul x k, below-mul x k) }

-- the division toward zero, for a divisor that is not negative
pub above_quot : (z : ℤ) (m : ℕ) → above (quot_z z (pos m)) ≡ above z / m
above_quot (pos a) m = refl
above_quot (negsuc a) m = above-neg (pos (suc a / m)) ∙ sym (zero-div m)

pub below_quot : (z : ℤ) (m : ℕ) → below (quot_z z (pos m)) ≡ below z / m
below_quot (pos a) m = sym (zero-div m)
below_quot (negsuc a) m = below-neg (pos (suc a / m))
