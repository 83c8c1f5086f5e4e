-- The decimal digits of a number: how they are made, and that they write it. Assumes nothing.
use Prim.Native.Nat.{ℕ, zero, suc, ◌+◌, ◌-◌, ◌*◌, ◌/◌, ◌%◌, ◌^◌, ◌<◌, ◌≤◌}
use native.Mathlib.Omega.{arith}
use native.Mathlib.Nat.{div-lt_iff_lt-mul, pow-suc, one-le-pow}
use mathlib.Core.List.{List, [], ◌∷◌, ◌++◌, foldl-append}
use mathlib.Core.Path.{◌≡◌, sym, ap, ◌∙◌, subst}
use lib.Dec.{ltb}
use lib.ListN.{length, get_or, length-append}
use borrow.Author.Tests.{lt-ltb, le-ltb}
use Rattle.basis.proofs.Case.{then, else, either}
use Rattle.clip.specs.Decimal.{digits, decimal, value_of, Numeral}

digits_one : (k n : ℕ) → n < 10 → digits (suc k) n ≡ (48 + n) ∷ []
unfolding digits
digits_one k n h = then (ltb n 10) _ _ (lt-ltb n 10 h)

digits_more : (k n : ℕ) → 10 ≤ n → digits (suc k) n ≡ digits k (n / 10) ++ ((48 + n % 10) ∷ [])
unfolding digits
digits_more k n h = else (ltb n 10) _ _ (le-ltb n 10 h)

tenth_below : (k n : ℕ) → 10 ≤ n → n < suc k → n / 10 < k
tenth_below k n h b = omega arith

-- any count above n is enough
digits_same : (k j n : ℕ) → n < k → n < j → digits k n ≡ digits j n
digits_same zero j n h b = absurd (omega arith)
digits_same (suc k) zero n h b = absurd (omega arith)
digits_same (suc k) (suc j) n h b =
    either (digits (suc k) n ≡ digits (suc j) n) 10 n
    (λ t. digits_more k n t
    ∙ ap (λ (l : List ℕ). l ++ ((48 + n % 10) ∷ [])) (digits_same k j (n / 10) (tenth_below k n t h) (tenth_below j n t b))
    ∙ sym (digits_more j n t))
    (λ t. digits_one k n t ∙ sym (digits_one j n t))

-- a number below 10 is its digit
pub decimal_one : (n : ℕ) → n < 10 → decimal n ≡ (48 + n) ∷ []
unfolding decimal
decimal_one n h = digits_one n n h

-- another ends in its last digit, after the digits of its tenth
pub decimal_more : (n : ℕ) → 10 ≤ n → decimal n ≡ decimal (n / 10) ++ ((48 + n % 10) ∷ [])
unfolding decimal
decimal_more n h =
    digits_more n n h
    ∙ ap (λ (l : List ℕ). l ++ ((48 + n % 10) ∷ [])) (digits_same n (suc (n / 10)) (n / 10) (omega arith) (omega arith))

-- what holds of one digit, and with one digit more where it held of a tenth, holds of the digits of any number
pub by_digits : (P : ℕ → List ℕ → Type 0) → ((n : ℕ) → n < 10 → P n ((48 + n) ∷ []))
    → ((n : ℕ) → 10 ≤ n → (l : List ℕ) → P (n / 10) l → P n (l ++ ((48 + n % 10) ∷ [])))
    → (n : ℕ) → P n (decimal n)
by_digits P one more n = within (suc n) n (omega arith)
  where
    within : (k m : ℕ) → m < k → P m (decimal m)
    within zero m h = absurd (omega arith)
    within (suc k) m h =
        either (P m (decimal m)) 10 m
        (λ t. subst (P m) (sym (decimal_more m t)) (more m t (decimal (m / 10)) (within k (m / 10) (tenth_below k m t h))))
        (λ t. subst (P m) (sym (decimal_one m t)) (one m t))

value : (n : ℕ) → value_of (decimal n) ≡ n
unfolding value_of
value n =
    by_digits (λ m l. value_of l ≡ m) (λ m h. omega arith)
    (λ m h l e. foldl-append (λ v d. v * 10 + (d - 48)) 0 l ((48 + m % 10) ∷ []) ∙ omega (arith, e))
    n

-- a digit after others: it is the last, or one of theirs
after_others : (l : List ℕ) (d : ℕ) (i : ℕ) (P : ℕ → Type 0) → i < length (l ++ (d ∷ []))
    → (i < length l → P (get_or l i 0)) → P d → P (get_or (l ++ (d ∷ [])) i 0)
after_others [] d zero P h f g = g
after_others [] d (suc i) P h f g = absurd (omega arith)
after_others (x ∷ l) d zero P h f g = f (omega arith)
after_others (x ∷ l) d (suc i) P h f g = after_others l d i P (omega arith) (λ b. f (omega arith)) g

abbrev IsDigit : ℕ → Type 0
IsDigit d = (48 ≤ d) × (d ≤ 57)

digit : (n i : ℕ) → i < length (decimal n) → IsDigit (get_or (decimal n) i 0)
digit n =
    by_digits (λ m l. (i : ℕ) → i < length l → IsDigit (get_or l i 0))
    (λ m h i b. after_others [] (48 + m) i IsDigit b (λ t. absurd (omega arith)) (omega arith, omega arith))
    (λ m h l f i b. after_others l (48 + m % 10) i IsDigit b (f i) (omega arith, omega arith))
    n

-- the first digit, where there is one
first_of : (l : List ℕ) (d : ℕ) → 48 < get_or l 0 0 → 48 < get_or (l ++ (d ∷ [])) 0 0
first_of [] d h = absurd (omega arith)
first_of (x ∷ l) d h = h

leading : (n : ℕ) → 0 < n → 48 < get_or (decimal n) 0 0
leading n =
    by_digits (λ m l. 0 < m → 48 < get_or l 0 0) (λ m h p. omega arith)
    (λ m h l f p. first_of l (48 + m % 10) (f (omega arith)))
    n

-- no more digits than the number needs
pub length-decimal : (n k : ℕ) → n < 10 ^ suc k → length (decimal n) ≤ suc k
length-decimal n =
    by_digits (λ m l. (k : ℕ) → m < 10 ^ suc k → length l ≤ suc k) (λ m h k b. omega arith) longer n
  where
    longer : (m : ℕ) → 10 ≤ m → (l : List ℕ) → ((k : ℕ) → m / 10 < 10 ^ suc k → length l ≤ suc k) → (k : ℕ) → m < 10 ^ suc k
        → length (l ++ ((48 + m % 10) ∷ [])) ≤ suc k
    longer m h l f zero b = absurd (omega arith)
    longer m h l f (suc k) b =
        let t : length l ≤ suc k = f k ((div-lt_iff_lt-mul (omega arith)).1 (subst (λ (p : ℕ). m < p) (pow-suc 10 (suc k)) b)) in
        omega (arith, length-append l ((48 + m % 10) ∷ []))

-- and no fewer
pub decimal-length : (n k : ℕ) → 10 ^ k ≤ n → suc k ≤ length (decimal n)
decimal-length n =
    by_digits (λ m l. (k : ℕ) → 10 ^ k ≤ m → suc k ≤ length l) first longer n
  where
    first : (m : ℕ) → m < 10 → (k : ℕ) → 10 ^ k ≤ m → suc k ≤ 1
    first m h zero b = omega arith
    first m h (suc k) b = absurd (omega (arith, pow-suc 10 k, one-le-pow k 10 (omega arith)))

    longer : (m : ℕ) → 10 ≤ m → (l : List ℕ) → ((k : ℕ) → 10 ^ k ≤ m / 10 → suc k ≤ length l) → (k : ℕ) → 10 ^ k ≤ m
        → suc k ≤ length (l ++ ((48 + m % 10) ∷ []))
    longer m h l f zero b = omega (arith, length-append l ((48 + m % 10) ∷ []))
    longer m h l f (suc k) b =
        let t : suc k ≤ length l = f k (omega (arith, pow-suc 10 k)) in
        omega (arith, length-append l ((48 + m % 10) ∷ []))

-- For the reader: the digits of a number write it
pub numeral : (n : ℕ) → Numeral n
numeral n = record { value = value n; digit = digit n; leading = leading n; enough = λ k. decimal-length n k; least = λ k. length-decimal n k }

-- just so many
pub exactly : (n k : ℕ) → 10 ^ k ≤ n → n < 10 ^ suc k → length (decimal n) ≡ suc k
exactly n k h b = omega (arith, decimal-length n k h, length-decimal n k b)

-- twenty digits hold any number of 64 bits
pub twenty_are_enough : (n : ℕ) → n < 2 ^ 64 → length (decimal n) ≤ 20
twenty_are_enough n h = length-decimal n 19 (omega arith)
