-- Places within a plane that its samples hold. Assumes nothing.
use Prim.Native.Nat.{ℕ, ◌+◌, ◌-◌, ◌*◌, ◌<◌, ◌≤◌}
use native.Mathlib.Omega.{arith}
use native.Mathlib.Nat.{mul-le-mul_right}
use mathlib.Core.Path.{◌≡◌, ap, ap₂, ◌∙◌}
use lib.IntN.{ℤ, pos}
use lib.ListN.{length, get_or}
use Rattle.plane.specs.Plane.{Plane, clamp_to, sample_at}
use Rattle.plane.specs.ToldHeld.{Held}

-- row r, column c is within the samples
pub in_plane : (p : Plane) (c r : ℕ) → Held p → c ≤ p.width - 1 → r ≤ p.height - 1 → r * p.stride + c < length p.samples
in_plane p c r h hc hr = omega (arith, mul-le-mul_right p.stride hr, h.last)

-- and so is the whole row
pub row_in_plane : (p : Plane) (r : ℕ) → Held p → r ≤ p.height - 1 → r * p.stride + p.width ≤ length p.samples
row_in_plane p r h hr = omega (arith, in_plane p (p.width - 1) r h (omega arith) hr, h.wide)

-- a coordinate inside is not clamped
pub sample_inside : (p : Plane) (x y : ℤ) (c r : ℕ) → x ≡ pos c → y ≡ pos r → c < p.width → r < p.height
    → sample_at p x y ≡ get_or p.samples (r * p.stride + c) 0
unfolding sample_at
sample_inside p x y c r e f hc hr =
    ap₂ (λ (i j : ℕ). get_or p.samples (j * p.stride + i) 0)
    (ap (clamp_to p.width) e ∙ stays c p.width hc) (ap (clamp_to p.height) f ∙ stays r p.height hr)
  where
    stays : (n size : ℕ) → n < size → clamp_to size (pos n) ≡ n
    stays n size h = omega arith
