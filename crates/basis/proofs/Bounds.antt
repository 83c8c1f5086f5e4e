-- Bounds on a product of two numbers. Assumes nothing.
use Prim.Native.Nat.{ℕ, suc, ◌+◌, ◌*◌, ◌≤◌, ◌<◌}
use native.Mathlib.Omega.{arith}
use native.Mathlib.Nat.{le_trans, mul-le-mul_left, mul-le-mul_right}

pub product_le : {a b m n : ℕ} → a ≤ m → b ≤ n → a * b ≤ m * n
product_le {a} {b} {m} {n} h k = le_trans (mul-le-mul_left a k) (mul-le-mul_right n h)

pub product_pos : {a b : ℕ} → 0 < a → 0 < b → 0 < a * b
product_pos {a} {b} h k = product_le h k

-- an entry of an earlier row lies before row n, and the row's end not behind its start
pub row_before : {j n : ℕ} (w : ℕ) → j < n → j * w + w ≤ n * w
row_before {j} {n} w h =
    let k : suc j * w ≤ n * w = mul-le-mul_right w h in
    omega (arith, k)
