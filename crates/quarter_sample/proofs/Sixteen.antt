-- The last of sixteen places, where fifteen tests have failed. Assumes nothing.
use Prim.Native.Nat.{ℕ, zero, suc, zero-le, ◌<◌, ◌≤◌}
use native.Mathlib.Nat.{le_antisymm}
use native.Mathlib.Omega.{arith}
use mathlib.Core.Path.{◌≡◌}
use Rattle.basis.proofs.Small.{next_up}

-- n is none of 0 .. k - 1, as a match tells it
abbrev pub NoneOf : ℕ → ℕ → Type 0
NoneOf n zero = Unit {0}
NoneOf n (suc k) = NoneOf n k × (n ≡ k → ⊥)

none_below : (n k : ℕ) → NoneOf n k → k ≤ n
none_below n zero r = zero-le
none_below n (suc k) r = let h : k ≤ n = none_below n k r.0 in omega (arith, next_up k h r.1)

pub last_place : (n : ℕ) → n < 16 → NoneOf n 15 → n ≡ 15
last_place n h r = le_antisymm (omega arith) (none_below n 15 r)
