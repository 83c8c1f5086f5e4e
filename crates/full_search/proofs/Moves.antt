-- Displacements that move on stay small. Assumes nothing.
use Prim.Native.Nat.{ℕ, ◌+◌, ◌≤◌}
use native.Mathlib.Nat.{div-le_self}
use native.Mathlib.Omega.{arith}
use mathlib.Core.Path.{◌≡◌, sym, subst}
use lib.IntN.{ℤ, pos, ◌-ℤ◌}
use lib.Signed.{quot_z}
use Rattle.basis.specs.Parts.{above, below}
use Rattle.basis.proofs.Parts.{above-add, below-add, above-sub, below_sub, above_quot, below_quot}
use Rattle.record.specs.declared.MotionVector.{MotionVector}
use Rattle.full_search.specs.Places.{down}
use Rattle.full_search.specs.Told.{Within}

pub down_within : (m n : ℕ) (d : MotionVector) (by : ℕ) → m + by ≤ n → Within m d → Within n (down d by)
down_within m n d by h w =
    record {
      x_above = omega (arith, w.x_above);
      x_below = omega (arith, w.x_below);
      y_above = omega (arith, above-add d.y (pos by), w.y_above);
      y_below = omega (arith, below-add d.y (pos by), w.y_below);
    }

pub lowered_within : (m n by : ℕ) (x y : ℤ) → m + by ≤ n → above x ≤ m → below x ≤ m → above y ≤ m → below y ≤ m
    → Within n (record { x = x -ℤ pos by; y = y -ℤ pos by })
lowered_within m n by x y h p q r t =
    record {
      x_above = omega (arith, above-sub x (pos by));
      x_below = omega (arith, below_sub x (pos by));
      y_above = omega (arith, above-sub y (pos by));
      y_below = omega (arith, below_sub y (pos by));
    }

pub wider : {m n : ℕ} {d : MotionVector} → m ≤ n → Within m d → Within n d
wider h w =
    record {
      x_above = omega (arith, w.x_above);
      x_below = omega (arith, w.x_below);
      y_above = omega (arith, w.y_above);
      y_below = omega (arith, w.y_below);
    }

-- a component that is divided
pub quotient_small : (z : ℤ) (u n : ℕ) → above z ≤ n → below z ≤ n → (above (quot_z z (pos u)) ≤ n) × (below (quot_z z (pos u)) ≤ n)
quotient_small z u n p q = (omega (arith, above_quot z u, div-le_self (above z) u), omega (arith, below_quot z u, div-le_self (below z) u))

-- a component as it is read back
pub read_small : (m n : ℕ) (z : ℤ) {v : ℤ} → m ≤ n → v ≡ z → above z ≤ m → below z ≤ m → (above v ≤ n) × (below v ≤ n)
read_small m n z h e p q = subst (λ (v : ℤ). (above v ≤ n) × (below v ≤ n)) (sym e) (omega arith, omega arith)
