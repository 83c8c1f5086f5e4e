-- Laws of reflected indices, over any size from 3. The index is u - 3, as a tap has it. Assumes nothing.
use Prim.Native.Nat.{ℕ, ◌+◌, ◌-◌, ◌*◌, ◌≤◌, ◌<◌}
use native.Mathlib.Decide.{dec_lt}
use native.Mathlib.Omega.{arith}
use mathlib.Core.Path.{◌≡◌, ap, ◌∙◌}
use lib.IntN.{pos, ◌-ℤ◌}
use borrow.Author.Tests.{lt-ltb, le-ltb}
use Rattle.basis.proofs.Case.{then, else}
use Rattle.basis.proofs.Parts.{difference_low, difference_high}
use Rattle.quarter_sample.specs.Filter.{mirror}

-- inside, an index is its own place; past the end it counts back
pub mirror_inside : (size i : ℕ) → i < size → mirror size (pos i) ≡ i
unfolding mirror
mirror_inside size i h = then _ i (2 * size - 1 - i) (lt-ltb i size h)

mirror_past : (size i : ℕ) → size ≤ i → mirror size (pos i) ≡ 2 * size - 1 - i
unfolding mirror
mirror_past size i h = else _ i (2 * size - 1 - i) (le-ltb i size h)

pub mirror-low : (size u : ℕ) → u < 3 → mirror size (pos u -ℤ pos 3) ≡ 2 - u
unfolding mirror
mirror-low size u h = ap (mirror size) (difference_low u 3 h) ∙ omega arith

pub mirror_mid : (size u : ℕ) → 3 ≤ u → u < size + 3 → mirror size (pos u -ℤ pos 3) ≡ u - 3
mirror_mid size u h k = ap (mirror size) (difference_high u 3 h) ∙ mirror_inside size (u - 3) (omega arith)

pub mirror-high : (size u : ℕ) → 3 ≤ u → size + 3 ≤ u → mirror size (pos u -ℤ pos 3) ≡ 2 * size + 2 - u
mirror-high size u h k = ap (mirror size) (difference_high u 3 h) ∙ mirror_past size (u - 3) (omega arith) ∙ omega arith

-- one reflection leads inside
pub mirror-below : (size u : ℕ) → 3 ≤ size → u < size + 6 → mirror size (pos u -ℤ pos 3) < size
mirror-below size u h k = by (dec_lt u 3) (dec_lt u (size + 3))
  where
    by : Dec (u < 3) → Dec (u < size + 3) → mirror size (pos u -ℤ pos 3) < size
    by (yes p) t = omega (arith, mirror-low size u p)
    by (no q) (yes p) = omega (arith, q, mirror_mid size u (omega (arith, q)) p)
    by (no q) (no r) = omega (arith, r, mirror-high size u (omega (arith, q)) (omega (arith, r)))
