-- A copied block is a plane of its own. Assumes nothing.
use Prim.Native.Nat.{ℕ, ◌+◌, ◌-◌, ◌*◌, ◌<◌}
use native.Mathlib.Omega.{arith}
use mathlib.Core.Path.{◌≡◌, ap₂, ◌∙◌}
use lib.IntN.{ℤ, pos, ◌+ℤ◌}
use lib.ListN.{get_or}
use Rattle.basis.specs.Lists.{raster}
use Rattle.basis.proofs.Bounds.{row_before}
use Rattle.basis.proofs.Lists.{get_or-raster, length-raster}
use Rattle.plane.specs.Plane.{Plane, clamp_to, sample_at, copied}
use Rattle.plane.specs.ToldHeld.{Held}

-- w columns and h rows from x, y on
abbrev pub copy_of : Plane → ℤ → ℤ → ℕ → ℕ → Plane
copy_of p x y w h = record { samples = raster w h (copied p x y); width = w; height = h; stride = w }

-- whose samples are those of the first
pub copied_twice : (p : Plane) (x y : ℤ) (w h i j : ℕ) → i < w → j < h → copied (copy_of p x y w h) (pos 0) (pos 0) i j ≡ copied p x y i j
unfolding sample_at
copied_twice p x y w h i j hi hj =
    ap₂ (λ (c r : ℕ). get_or (raster w h (copied p x y)) (r * w + c) 0) column row ∙ get_or-raster w h (copied p x y) i j 0 hi hj
  where
    column : clamp_to w (pos 0 +ℤ pos i) ≡ i
    column = omega arith

    row : clamp_to h (pos 0 +ℤ pos j) ≡ j
    row = omega arith

-- and which its samples hold
pub copy_held : (p : Plane) (x y : ℤ) (w h : ℕ) → 0 < w → 0 < h → Held (copy_of p x y w h)
copy_held p x y w h hw hh =
    let k : h - 1 < h = omega arith in
    record { wide = hw; high = hh; last = omega (arith, length-raster w h (copied p x y), row_before w k) }
