-- Rows that are listed whole. Assumes nothing.
use Prim.Native.Nat.{ℕ, ◌-◌, ◌*◌, ◌≤◌, ◌<◌}
use native.Mathlib.Nat.{mul-le-mul_left}
use native.Mathlib.Omega.{arith}
use mathlib.Core.Path.{◌≡◌}
use lib.IntN.{ℤ, pos, nat_abs, ◌+ℤ◌}
use Rattle.basis.proofs.Parts.{sides, above-add, below-add, size_parts}
use Rattle.full_search.specs.declared.Row.{Row}
use Rattle.full_search.specs.Places.{right, distance}
use Rattle.full_search.specs.ToldPatch.{ListedWhole}
use Rattle.full_search.proofs.Listed.{is_listed}

-- what stands between two numbers is no larger than the larger of them
between_ends : (z : ℤ) (a b n : ℕ) → a ≤ b → nat_abs z ≤ n → nat_abs (z +ℤ pos b) ≤ n → nat_abs (z +ℤ pos a) ≤ n
between_ends z a b n h p q =
    omega (
      arith,
      sides z,
      size_parts z,
      above-add z (pos b),
      below-add z (pos b),
      size_parts (z +ℤ pos b),
      above-add z (pos a),
      below-add z (pos a),
      size_parts (z +ℤ pos a),
    )

module _ (r : Row) (some : 1 ≤ r.count) (inside : r.inner ≤ nat_abs r.from.y) (off : nat_abs r.from.y ≡ 0 → ⊥)
    (first : distance r.from ≤ r.outer) (last : distance (right r.from (r.step * (r.count - 1))) ≤ r.outer) where
  place_in : (k : ℕ) → k < r.count → nat_abs (r.from.x +ℤ pos (r.step * k)) ≤ r.outer
  place_in k h =
      between_ends r.from.x (r.step * k) (r.step * (r.count - 1)) r.outer (mul-le-mul_left r.step (less r.count h))
      (omega (arith, first)) (omega (arith, last))
    where
      less : (n : ℕ) → k < n → k ≤ n - 1
      less n h = omega arith

  -- a row that passes the inner square and zero, and whose ends are in the window
  pub listed_whole : ListedWhole r
  listed_whole =
      record {
        all =
            λ k h.
            is_listed r.inner r.outer (right r.from (r.step * k)) (omega (arith, inside)) (omega (arith, first, place_in k h));
        other = λ k h z. off (omega (arith, z));
      }
