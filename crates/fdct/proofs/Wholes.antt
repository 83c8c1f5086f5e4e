-- From 2 ^ 52 on a double has no fraction: 2 ^ 52 added and taken away leaves a whole number within a half of what was there, and a
-- half above it tells the nearest, a half upward. Assumes nothing.
use mathlib.Core.Path.{◌≡◌, refl, sym, ap, ap₂, ◌∙◌, subst}
use mathlib.Core.Bool.{Bool, true, false, ◌&&◌, ◌||◌, true≢false}
use Prim.Native.Nat.{ℕ, suc, ◌+◌, ◌-◌, ◌*◌, ◌/◌, ◌%◌, ◌^◌, ◌<◌, ◌≤◌, compare, Ordering}
use native.Mathlib.Nat.{le_trans, le_of_eq, lt_of_not-le, not-le_of_lt, lt_of_lt_of_le, lt_of_le_of_lt, le_of_suc-le-suc}
use native.Mathlib.Nat.{mul_assoc, mul-one, mul_right_comm, mul-pos, mod-lt, div-add-mod', add-mul, suc-mul}
use native.Mathlib.Nat.{mul-le-mul_right, mul-lt-mul_of_pos_right, lt_of_mul-lt-mul_right, le_of_mul-le-mul_right, eq_of_mul-eq-mul_right}
use native.Mathlib.Nat.{div-lt_iff_lt-mul, le-div_iff_mul-le}
use native.Mathlib.Omega.{arith}
use borrow.Author.Tests.{ltb-true, eqb-true, lt-ltb, le-ltb}
use lib.Arith.{lt_of_le-ne}
use lib.Dec.{T, is_le, compare_is_eq, ltb, eqb, lit<, lit≤, leb→le, nleb→lt, eqb→eq, eqb_refl, le→leb}
use lib.IntN.{ℤ, pos}
use lib.Pow.{pow-add, pow_pos, pow_mono}
use lib.Ieee.{Float, nan, inf, fin, binary64, up, down, size, nearest, units, round, neg, add, sub, sum, le, lt, eq, fits, in_signed, to_signed, in_float, of_int}
use lib.Ieee.Digits.{size-lt, size-le}
use lib.Ieee.Fits.{core, round_is, nearest-le, down_pos, add-fits, of_int-fits}
use lib.Ieee.Exact.{HasValue, units_val, round_exact}
use lib.Ieee.Nearest.{closest, closest_same, nearest-ge}
use lib.Ieee.Order.{le_of_values}
use lib.Ieee.Scale.{round_same}
use lib.Ieee.Back.{round_whole, positive_back, whole_unique}
use Rattle.basis.proofs.Case.{then, else}
use Rattle.basis.proofs.Division.{quotient_is}
use Rattle.fdct.specs.Double.{zero_double, one_double, half_double}
use Rattle.fdct.specs.Rounding.{nearest_up, rounded_size}
use Rattle.fdct.specs.Told.{ground, rested, carried}

-- ---- how near the closest whole number is
abbrev Cmp : Ordering → ℕ → ℕ → Type 0
Cmp Ordering.lt a b = a < b
Cmp Ordering.eq a b = a ≡ b
Cmp Ordering.gt a b = b < a

cmp : (a b : ℕ) → Cmp (compare a b) a b
cmp a b = go (compare a b) (leb→le a b) (nleb→lt a b) (eqb→eq a b) (λ (e : a ≡ b). subst (λ (x : ℕ). T (eqb a x)) e (eqb_refl a))
  where
    go : (o : Ordering) → (T (is_le o) → a ≤ b) → (T (mathlib.Core.Bool.not (is_le o)) → b < a) → (T (compare_is_eq o) → a ≡ b) → (a ≡ b → T (compare_is_eq o)) → Cmp o a b
    go Ordering.lt h k e n = lt_of_le-ne (h tt) n
    go Ordering.eq h k e n = e tt
    go Ordering.gt h k e n = k tt

-- a number is within half of b of a
abbrev Halfway : ℕ → ℕ → ℕ → Type 0
Halfway n a b = (n * 2 ≤ a * 2 + b) × (a * 2 ≤ n * 2 + b)

step : (q r b : ℕ) (o : Ordering) → Cmp o (r * 2) b → r < b → Halfway (nearest q o * b) (q * b + r) b
step q r b Ordering.lt h k = (omega arith, omega arith)
step q r b Ordering.eq h k =
    let e : (q + q % 2) * b ≡ q * b + q % 2 * b = add-mul q (q % 2) b in
    let one : q % 2 ≤ 1 = omega arith in
    let t : q % 2 * b ≤ 1 * b = mul-le-mul_right b one in
    (omega arith, omega arith)
step q r b Ordering.gt h k = let e : suc q * b ≡ q * b + b = suc-mul q b in (omega arith, omega arith)

closest_near : (a b : ℕ) → 0 < b → Halfway (closest a b * b) a b
closest_near a b B =
    subst (λ (z : ℕ). Halfway (closest a b * b) z b) (div-add-mod' a b)
    (step (a / b) (a % b) b (compare (a % b * 2) b) (cmp (a % b * 2) b) (mod-lt a B))

-- ---- a fraction of 2 ^ 52 up to 2 ^ 53 rounds to the closest whole number
size_gt : (n j : ℕ) → 2 ^ j ≤ n → j < size n
size_gt n j h = lt_of_not-le (λ (g : size n ≤ j). not-le_of_lt (lt_of_lt_of_le (size-lt n) (pow_mono g)) h)

left : (z l : ℕ) → 52 + l < z → z ≤ 53 + l → z - 53 ≡ l
left z l h k = omega arith

digits : (l num den : ℕ) → 0 < den → 2 ^ 52 * den ≤ num → num < 2 ^ 53 * den → size (num * 2 ^ l / den) - 53 ≡ l
digits l num den D lo hi =
    let lo' : 2 ^ (52 + l) * den ≤ num * 2 ^ l =
    le_trans (le_of_eq (ap (λ (z : ℕ). z * den) (pow-add 2 52 l) ∙ mul_right_comm (2 ^ 52) (2 ^ l) den)) (mul-le-mul_right (2 ^ l) lo) in
    let hi' : num * 2 ^ l < 2 ^ (53 + l) * den =
    lt_of_lt_of_le (mul-lt-mul_of_pos_right hi (pow_pos l)) (le_of_eq (mul_right_comm (2 ^ 53) den (2 ^ l) ∙ ap (λ (z : ℕ). z * den) (sym (pow-add 2 53 l)))) in
    left (size (num * 2 ^ l / den)) l (size_gt (num * 2 ^ l / den) (52 + l) ((le-div_iff_mul-le D).1 lo')) (size-le (num * 2 ^ l / den) (53 + l) ((div-lt_iff_lt-mul D).1 hi'))

-- a value of c l / l is c
cancel : (x : Float) (s : Bool) (c l : ℕ) → 0 < l → HasValue x s (c * l) l → HasValue x s c 1
cancel nan s c l p v = v
cancel (inf t) s c l p v = v
cancel (fin t m e) s c l p v = (
  v.0,
  eq_of_mul-eq-mul_right l p (m * up e * 1) (c * down e) (ap (λ (z : ℕ). z * l) (mul-one (m * up e)) ∙ v.1 ∙ mul_right_comm c l (down e)),
)

closest_most : (num den : ℕ) → 0 < den → num < 2 ^ 53 * den → closest num den ≤ 2 ^ 53
closest_most num den D hi = le_trans (nearest-le (num / den) (compare (num % den * 2) den)) ((div-lt_iff_lt-mul D).1 hi)

whole_round : (num den : ℕ) → 0 < den → 2 ^ 52 * den ≤ num → num < 2 ^ 53 * den → HasValue (round binary64 false num den) false (closest num den) 1
whole_round num den D lo hi =
    let c = closest num den in
    let is : round binary64 false num den ≡ units binary64 false c 1074 =
    round_is binary64 false num den
    ∙ ap (core binary64 false (num * 2 ^ 1074) den) (digits 1074 num den D lo hi)
    ∙ ap (λ (z : ℕ). units binary64 false z 1074)
    (closest_same (num * 2 ^ 1074) (den * 2 ^ 1074) num den (mul-pos D (pow_pos 1074)) D (mul_right_comm num (2 ^ 1074) den ∙ mul_assoc num den (2 ^ 1074))) in
    let under : c * 2 ^ 1074 < 2 ^ (1074 + 1024) =
    lt_of_le_of_lt (mul-le-mul_right (2 ^ 1074) (closest_most num den D hi)) (lit< tt) in
    subst (λ (x : Float). HasValue x false c 1) (sym is) (cancel (units binary64 false c 1074) false c (2 ^ 1074) (pow_pos 1074) (units_val binary64 false c 1074 under))

-- ---- 2 ^ 52 added, and taken away
ground_added : (s : Bool) (m : ℕ) (e : ℤ) → (s ≡ true → m * up e ≡ 0)
    → add binary64 (fin s m e) ground ≡ round binary64 false (m * up e + 2 ^ 52 * down e) (down e)
unfolding add sum
ground_added false m e z =
    ap₂ (round binary64 false) (let n : m * up e * 1 + 1 * 2 ^ 52 * down e ≡ m * up e + 2 ^ 52 * down e = omega arith in n) (mul-one (down e))
ground_added true m e z =
    let none = z refl in
    let D = down_pos e in
    then _ _ _ (lt-ltb (m * up e * 1) (1 * 2 ^ 52 * down e) (omega arith))
    ∙ ap₂ (round binary64 false) (let n : 1 * 2 ^ 52 * down e - m * up e * 1 ≡ m * up e + 2 ^ 52 * down e = omega arith in n) (mul-one (down e))

ground-taken : (y : Float) (j : ℕ) → j ≤ 2 ^ 53 → HasValue y false (2 ^ 52 + j) 1 → HasValue (sub binary64 y ground) false j 1
unfolding sub add neg sum
ground-taken nan j h v = absurd v
ground-taken (inf t) j h v = absurd v
ground-taken (fin true m e) j h v = absurd (true≢false v.0)
ground-taken (fin false m e) j h v =
    let value : m * up e * 1 ≡ 2 ^ 52 * down e + j * down e = v.1 ∙ add-mul (2 ^ 52) j (down e) in
    let rest : (m * up e * 1 - 1 * 2 ^ 52 * down e) * 1 ≡ j * (down e * 1) = omega arith in
    subst (λ (x : Float). HasValue x false j 1)
    (sym (else _ _ _ (le-ltb (m * up e * 1) (1 * 2 ^ 52 * down e) (omega arith))
    ∙ round_same binary64 false (m * up e * 1 - 1 * 2 ^ 52 * down e) (down e * 1) j 1 (mul-pos (down_pos e) (lit< tt)) (lit< tt) rest))
    (round_whole binary64 false j h)

-- ---- a half, and a whole number, added to a whole number
half_added : (t : Float) (j : ℕ) → j ≤ 4096 → HasValue t false j 1 → HasValue (add binary64 t half_double) false (2 * j + 1) 2
unfolding add sum
half_added nan j h v = absurd v
half_added (inf t) j h v = absurd v
half_added (fin true m e) j h v = absurd (true≢false v.0)
half_added (fin false m e) j h v =
    let value : m * up e * 1 ≡ j * down e = v.1 in
    let same : (m * up e * 2 + 1 * 1 * down e) * 2 ≡ (2 * j + 1) * (down e * 2) = omega arith in
    let few : 2 * j + 1 < 2 ^ 53 = omega arith in
    subst (λ (x : Float). HasValue x false (2 * j + 1) 2)
    (sym (round_same binary64 false (m * up e * 2 + 1 * 1 * down e) (down e * 2) (2 * j + 1) 2 (mul-pos (down_pos e) (lit< tt)) (lit< tt) same))
    (round_exact binary64 false (2 * j + 1) 2 (2 * j + 1) 1073 (lit< tt) few
    (lt_of_lt_of_le (mul-lt-mul_of_pos_right few (pow_pos 1073)) (lit≤ tt)) (sym (mul_assoc (2 * j + 1) (2 ^ 1073) 2)))

whole_added : (t : Float) (j b : ℕ) → j + b ≤ 2 ^ 53 → HasValue t false j 1 → HasValue (add binary64 t (fin false b (pos 0))) false (j + b) 1
unfolding add sum
whole_added nan j b h v = absurd v
whole_added (inf t) j b h v = absurd v
whole_added (fin true m e) j b h v = absurd (true≢false v.0)
whole_added (fin false m e) j b h v =
    let value : m * up e * 1 ≡ j * down e = v.1 in
    let same : (m * up e * 1 + b * 1 * down e) * 1 ≡ (j + b) * (down e * 1) = omega arith in
    subst (λ (x : Float). HasValue x false (j + b) 1)
    (sym (round_same binary64 false (m * up e * 1 + b * 1 * down e) (down e * 1) (j + b) 1 (mul-pos (down_pos e) (lit< tt)) (lit< tt) same))
    (round_whole binary64 false (j + b) h)

-- ---- what the test against x tells: u is a / c, x is m up e / down e
not_more : (p q : ℕ) (b : Bool) → (ltb p q || (eqb p q && b)) ≡ true → p ≤ q
not_more p q b t = go (ltb p q) refl t
  where
    equal : (d : Bool) → eqb p q ≡ d → (d && b) ≡ true → p ≤ q
    equal true e t = le_of_eq (eqb-true p q e)
    equal false e t = absurd (true≢false (sym t))

    go : (d : Bool) → ltb p q ≡ d → (d || (eqb p q && b)) ≡ true → p ≤ q
    go true e t = le_trans (let k : p ≤ suc p = omega arith in k) (ltb-true p q e)
    go false e t = equal (eqb p q) refl t

crossed : (x y de dd a c : ℕ) → 0 < de → x * c ≡ a * de → x * dd ≤ y * de → a * dd ≤ y * c
crossed x y de dd a c D v h =
    le_of_mul-le-mul_right
    (le_trans (le_of_eq (mul_right_comm a dd de ∙ ap (λ (z : ℕ). z * dd) (sym v) ∙ mul_right_comm x c dd))
    (le_trans (mul-le-mul_right c h) (le_of_eq (mul_right_comm y de c)))) D

reached : (u : Float) (a c : ℕ) (s : Bool) (m : ℕ) (e : ℤ) → HasValue u false a c → le u (fin s m e) ≡ true → a * down e ≤ m * up e * c
unfolding le lt eq
reached nan a c s m e v t = absurd v
reached (inf d) a c s m e v t = absurd v
reached (fin true n d) a c s m e v t = absurd (true≢false v.0)
reached (fin false n d) a c false m e v t =
    crossed (n * up d) (m * up e) (down d) (down e) a c (down_pos d) v.1 (not_more (n * up d * down e) (m * up e * down d) _ t)
reached (fin false n d) a c true m e v t =
    let same : eqb (n * up d * down e) (m * up e * down d) ≡ true = first (eqb (n * up d * down e) (m * up e * down d)) _ t in
    crossed (n * up d) (m * up e) (down d) (down e) a c (down_pos d) v.1 (le_of_eq (eqb-true _ _ same))
  where
    first : (p q : Bool) → (p && q) ≡ true → p ≡ true
    first true q t = refl
    first false q t = t

missed : (u : Float) (a c : ℕ) (s : Bool) (m : ℕ) (e : ℤ) → 0 < a → 0 < c → HasValue u false a c → (s ≡ true → m * up e ≡ 0)
    → le u (fin s m e) ≡ false → m * up e * c < a * down e
missed u a c true m e A C v z t =
    subst (λ (k : ℕ). k * c < a * down e) (sym (z refl)) (lt_of_le_of_lt (le_of_eq (native.Mathlib.Nat.zero-mul c)) (mul-pos A (down_pos e)))
missed u a c false m e A C v z t =
    lt_of_not-le (λ (h : a * down e ≤ m * up e * c).
    true≢false (sym (T_true (le_of_values u (fin false m e) a c (m * up e) (down e) C (down_pos e) v (refl, refl) h)) ∙ t))
  where
    T_true : {b : Bool} → T b → b ≡ true
    T_true {b = true} t = refl
    T_true {b = false} t = absurd t

-- ---- the nearest, a half upward
upward : (x d j : ℕ) → 0 < d → Halfway (j * d) x d → (2 * j + 1) * d ≤ x * 2 → nearest_up x d ≡ j + 1
upward x d j D h k = quotient_is (2 * x + d) (2 * d) (j + 1) (omega arith) (omega (arith, h.0, h.1)) (omega (arith, h.0, h.1))

downward : (x d j : ℕ) → 0 < d → Halfway (j * d) x d → x * 2 < (2 * j + 1) * d → nearest_up x d ≡ j
downward x d j D h k = quotient_is (2 * x + d) (2 * d) j (omega arith) (omega (arith, h.0, h.1)) (omega (arith, h.0, h.1))

-- ---- the whole: x is not below 0, and below 4096
record Rests (s : Bool) (m : ℕ) (e : ℤ) : Type 0 where
  at : ℕ
  small : at ≤ 4096
  is : HasValue (rested (fin s m e)) false at 1
  near : Halfway (at * down e) (m * up e) (down e)

few : (j d x : ℕ) → j * d * 2 ≤ x * 2 + d → x < 4096 * d → j ≤ 4096
few j d x h k = le_of_suc-le-suc (lt_of_mul-lt-mul_right (2 * d) (let r : j * (2 * d) < 4097 * (2 * d) = omega arith in r))

rests : (s : Bool) (m : ℕ) (e : ℤ) → (s ≡ true → m * up e ≡ 0) → m * up e < 4096 * down e → Rests s m e
rests s m e z b =
    let x = m * up e in
    let d = down e in
    let D = down_pos e in
    let num = x + 2 ^ 52 * d in
    let c = closest num d in
    let lo : 2 ^ 52 * d ≤ num = omega arith in
    let hi : num < 2 ^ 53 * d = omega arith in
    let least : 2 ^ 52 ≤ c = le_trans ((le-div_iff_mul-le D).1 lo) (nearest-ge (num / d) (compare (num % d * 2) d)) in
    let near = closest_near num d D in
    let j = c - 2 ^ 52 in
    let c_is : c ≡ 2 ^ 52 + j = omega arith in
    let cd : c * d ≡ 2 ^ 52 * d + j * d = ap (λ (k : ℕ). k * d) c_is ∙ add-mul (2 ^ 52) j d in
    let near' : Halfway (j * d) x d = (omega (arith, near.0), omega (arith, near.1)) in
    let most : j ≤ 4096 = few j d x near'.0 b in
    record {
      at = j;
      small = most;
      is = ground-taken (add binary64 (fin s m e) ground) j (le_trans most (lit≤ tt))
          (subst (λ (y : Float). HasValue y false (2 ^ 52 + j) 1) (sym (ground_added s m e z))
          (subst (λ (k : ℕ). HasValue (round binary64 false num d) false k 1) c_is (whole_round num d D lo hi)));
      near = near';
    }

-- what is cast: it is a whole number, and which
pub record Cast (x : Float) : Type 0 where
  pub castable : T (in_signed binary64 31 (add binary64 (rested x) (carried (rested x) x)))
  pub is : to_signed 31 (add binary64 (rested x) (carried (rested x) x)) ≡ pos (rounded_size x)

cast_whole : (y : Float) (n : ℕ) → T (fits binary64 y) → HasValue y false n 1 → n ≤ 4097 → T (in_signed binary64 31 y) × (to_signed 31 y ≡ pos n)
unfolding of_int in_float
cast_whole y n f v h =
    let same : y ≡ of_int binary64 (pos n) =
    whole_unique binary64 y (of_int binary64 (pos n)) false n f (of_int-fits binary64 (pos n)) v (round_whole binary64 false n (le_trans h (lit≤ tt))) in
    subst (λ (w : Float). T (in_signed binary64 31 w) × (to_signed 31 w ≡ pos n)) (sym same)
    (positive_back binary64 31 n (le→leb n (2 ^ 53) (le_trans h (lit≤ tt))) (lt_of_le_of_lt h (lit< tt)))

cast_at : (s : Bool) (m : ℕ) (e : ℤ) → (s ≡ true → m * up e ≡ 0) → Rests s m e → Cast (fin s m e)
unfolding rounded_size
cast_at s m e z r = by (le (add binary64 t half_double) (fin s m e)) refl
  where
    t : Float
    t = rested (fin s m e)

    lifted : HasValue (add binary64 t half_double) false (2 * r.at + 1) 2
    lifted = half_added t r.at r.small r.is

    told : (y : Float) (n : ℕ) → y ≡ add binary64 t (carried t (fin s m e)) → T (in_signed binary64 31 y) × (to_signed 31 y ≡ pos n)
        → nearest_up (m * up e) (down e) ≡ n → Cast (fin s m e)
    told y n same h q = record {
      castable = subst (λ (w : Float). T (in_signed binary64 31 w)) same h.0;
      is = sym (ap (to_signed 31) same) ∙ h.1 ∙ ap pos (sym q);
    }

    by : (b : Bool) → le (add binary64 t half_double) (fin s m e) ≡ b → Cast (fin s m e)
    by true k =
        told (add binary64 t one_double) (r.at + 1) (ap (add binary64 t) (sym (then _ _ _ k)))
        (cast_whole _ (r.at + 1) (add-fits binary64 t one_double)
        (whole_added t r.at 1 (le_trans (let n : r.at + 1 ≤ 4097 = omega (arith, r.small) in n) (lit≤ tt)) r.is) (omega (arith, r.small)))
        (upward (m * up e) (down e) r.at (down_pos e) r.near (reached (add binary64 t half_double) (2 * r.at + 1) 2 s m e lifted k))
    by false k =
        told (add binary64 t zero_double) (r.at + 0) (ap (add binary64 t) (sym (else _ _ _ k)))
        (cast_whole _ (r.at + 0) (add-fits binary64 t zero_double)
        (whole_added t r.at 0 (le_trans (let n : r.at + 0 ≤ 4097 = omega (arith, r.small) in n) (lit≤ tt)) r.is) (omega (arith, r.small)))
        (downward (m * up e) (down e) r.at (down_pos e) r.near (missed (add binary64 t half_double) (2 * r.at + 1) 2 s m e (omega arith) (lit< tt) lifted z k)
        ∙ let n : r.at ≡ r.at + 0 = omega arith in n)

-- x is finite, below 4096, and if it has a minus sign it is zero
pub cast_is : (x : Float) → T (le zero_double x) → T (lt x (fin false 1 (pos 12))) → Cast x
unfolding le lt eq
cast_is nan p q = absurd p
cast_is (inf true) p q = absurd p
cast_is (inf false) p q = absurd q
cast_is (fin true m e) p q =
    let same = lib.Ieee.Fits.and_l (eqb (0 * down e) (m * up e * 1)) (false || eqb (0 * down e) 0) p in
    let n : 0 * down e ≡ m * up e * 1 = eqb→eq (0 * down e) (m * up e * 1) same in
    let none : m * up e ≡ 0 = omega arith in
    cast_at true m e (λ t. none) (rests true m e (λ t. none) (lt_of_le_of_lt (le_of_eq none) (mul-pos (lit< tt) (down_pos e))))
cast_is (fin false m e) p q =
    let b : m * up e * 1 < 4096 * down e = lib.Dec.ltb→lt (m * up e * 1) (4096 * down e) q in
    let no : false ≡ true → m * up e ≡ 0 = λ t. absurd (true≢false (sym t)) in
    cast_at false m e no (rests false m e no (omega arith))
