-- Numbers in decimal digits, in ASCII: `0` is 48, `-` is 45.
use Rattle.std.specs.Prelude.{cond, ◌≡◌, ℕ, zero, suc, ◌+◌, ◌-◌, ◌*◌, ◌/◌, ◌%◌, ◌^◌, ◌<◌, ◌≤◌, ltb, ℤ, pos, negsuc, length, get_or}
use mathlib.Core.List.{List, [], ◌∷◌, ◌++◌, foldl}

-- a number below 10 is one digit, another the digits of a tenth of it and its last; at most k of them
unfoldable pub digits : ℕ → ℕ → List ℕ
digits zero n = []
digits (suc k) n = cond (ltb n 10) ((48 + n) ∷ []) (digits k (n / 10) ++ ((48 + n % 10) ∷ []))

-- all digits of n, whatever its size: it has never more than n + 1
unfoldable pub decimal : ℕ → List ℕ
decimal n = digits (suc n) n

-- a negative number is a minus sign and its size
unfoldable pub decimal_z : ℤ → List ℕ
decimal_z (pos n) = decimal n
decimal_z (negsuc n) = 45 ∷ decimal (suc n)

-- the number that digits are read as
unfoldable pub value_of : List ℕ → ℕ
value_of ds = foldl (λ v d. v * 10 + (d - 48)) 0 ds

-- what holds of the digits of n
pub record Numeral (n : ℕ) : Type 0 where
  -- read back, they are n
  pub value : value_of (decimal n) ≡ n
  -- each is one of `0` to `9`
  pub digit : (i : ℕ) → i < length (decimal n) → (48 ≤ get_or (decimal n) i 0) × (get_or (decimal n) i 0 ≤ 57)
  -- the first is no 0, unless n is
  pub leading : 0 < n → 48 < get_or (decimal n) 0 0
  -- there are as many as n needs, and no more
  pub enough : (k : ℕ) → 10 ^ k ≤ n → suc k ≤ length (decimal n)
  pub least : (k : ℕ) → n < 10 ^ suc k → length (decimal n) ≤ suc k
