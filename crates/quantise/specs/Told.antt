-- Told, not believed: what the private functions need of their caller.
use Rattle.std.specs.Prelude.{ℕ, ◌+◌, ◌/◌, ◌≤◌, ◌<◌, ◌≡◌, Bool, true, List, ℤ, pos, nat_abs, get_or, length}

-- 2 ^ 15 / d, rounded up
abbrev pub reciprocal_of : ℕ → ℕ
reciprocal_of d = (32767 + d) / d

-- a coefficient, the quantiser and its reciprocal, for the second method
pub record Quantisable (f : ℤ) (q by : ℕ) : Type 0 where
  pub small : nat_abs f ≤ 2048
  pub quantiser_some : 1 ≤ q
  pub quantiser_most : q ≤ 31
  pub by_is : by ≡ reciprocal_of q

-- a coefficient, its weight and the quantiser, for the first method
pub record Weighable (f : ℤ) (w q : ℕ) : Type 0 where
  pub small : nat_abs f ≤ 2048
  pub weight_some : 1 ≤ w
  pub quantiser_some : 1 ≤ q
  pub quantiser_most : q ≤ 31

-- a block, the quantiser, the method, the weights, and an area of n places
pub record BlockNeeds (fs : List ℤ) (q : ℕ) (first : Bool) (weights : List ℕ) (n : ℕ) : Type 0 where
  pub quantiser_some : 1 ≤ q
  pub quantiser_most : q ≤ 31
  pub long : length fs ≡ 64
  pub weights_long : length weights ≡ 64
  pub area_long : n ≡ 64
  pub small : (i : ℕ) → i < 64 → nat_abs (get_or fs i (pos 0)) ≤ 2048
  pub weight_some : first ≡ true → (i : ℕ) → i < 64 → 1 ≤ get_or weights i 0

-- levels, the quantiser, and an area of n places
pub record InverseNeeds (levels : List ℤ) (q n : ℕ) : Type 0 where
  pub quantiser_some : 1 ≤ q
  pub quantiser_most : q ≤ 31
  pub long : length levels ≡ 64
  pub area_long : n ≡ 64
  pub small : (i : ℕ) → i < 64 → nat_abs (get_or levels i (pos 0)) ≤ 2047
