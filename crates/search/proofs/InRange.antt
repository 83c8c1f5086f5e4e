-- Vectors in range, as clamping makes them, and what their parts are then at most. Assumes nothing.
use Prim.Native.Nat.{ℕ, zero, suc, ◌+◌, ◌-◌, ◌^◌, ◌≤◌}
use native.Mathlib.Omega.{arith}
use mathlib.Core.Bool.{true}
use mathlib.Core.Path.{◌≡◌, refl}
use lib.IntN.{ℤ, pos, negsuc}
use Rattle.basis.specs.Parts.{above, below}
use Rattle.basis.proofs.Case.{both}
use Rattle.basis.proofs.Parts.{sides, above-neg, below-neg}
use Rattle.basis.proofs.Signed.{le_is}
use Rattle.refusal.specs.Test.{between, in_range}
use Rattle.refusal.proofs.Tests.{and_left, and_right, between-high, range-low, range-high, cut_in}
use Rattle.record.specs.declared.MotionVector.{MotionVector}
use Rattle.plane.specs.Reference.{vector_in_range}
use Rattle.full_search.specs.Told.{Within}
use Rattle.search.specs.Range.{range, low, high, vector_in, clamped}

power : (n : ℕ) → 1 ≤ 2 ^ n
power zero = omega arith
power (suc n) = omega (arith, power n)

pub range_least : (fcode : ℕ) → 32 ≤ range fcode
unfolding range
range_least fcode = omega (arith, power (fcode - 1))

power_upto : (k n : ℕ) → n ≤ k → 2 ^ n ≤ 2 ^ k
power_upto zero zero h = omega arith
power_upto zero (suc n) h = absurd (none h)
  where
    none : suc n ≤ 0 → ⊥
    none h = omega arith
power_upto (suc k) zero h = omega (arith, power (suc k))
power_upto (suc k) (suc n) h = omega (arith, power_upto k n (omega arith))

-- fcode 7 has the widest range
pub range_most : (fcode : ℕ) → between 1 7 fcode ≡ true → range fcode ≤ 2048
unfolding range
range_most fcode e =
    let h : fcode - 1 ≤ 6 = omega (arith, between-high 1 7 fcode e) in
    omega (arith, power_upto 6 (fcode - 1) h)

-- the ends' parts
low_below : (fcode : ℕ) → below (low fcode) ≡ range fcode
unfolding low
low_below fcode = below-neg (pos (range fcode))

low-above : (fcode : ℕ) → above (low fcode) ≡ 0
unfolding low
low-above fcode = above-neg (pos (range fcode))

high-above : (fcode : ℕ) → above (high fcode) ≡ range fcode - 1
unfolding high
high-above fcode = refl

high-below : (fcode : ℕ) → below (high fcode) ≡ 0
unfolding high
high-below fcode = refl

ordered : (fcode : ℕ) → above (low fcode) + below (high fcode) ≤ above (high fcode) + below (low fcode)
ordered fcode = omega (arith, low-above fcode, high-below fcode)

-- a clamped vector is in range
pub clamped_in_lem : (fcode : ℕ) (v : MotionVector) → vector_in fcode (clamped fcode v) ≡ true
clamped_in_lem fcode v = both (cut_in (low fcode) (high fcode) v.x (ordered fcode)) (cut_in (low fcode) (high fcode) v.y (ordered fcode))

record Bounded (n : ℕ) (z : ℤ) : Type 0 where
  up : above z ≤ n - 1
  down : below z ≤ n

bounded : (fcode : ℕ) (z : ℤ) → in_range (low fcode) (high fcode) z ≡ true → Bounded (range fcode) z
bounded fcode z e =
    let l = range-low (low fcode) (high fcode) z e in
    let h = range-high (low fcode) (high fcode) z e in
    record {
      up = omega (arith, l, h, low-above fcode, low_below fcode, high-above fcode, high-below fcode, sides z);
      down = omega (arith, l, h, low-above fcode, low_below fcode, high-above fcode, high-below fcode, sides z, range_least fcode);
    }

module _ (fcode : ℕ) (v : MotionVector) (f : between 1 7 fcode ≡ true) (e : vector_in fcode v ≡ true) where
  across : Bounded (range fcode) v.x
  across = bounded fcode v.x (and_left (in_range (low fcode) (high fcode) v.x) (in_range (low fcode) (high fcode) v.y) e)

  along : Bounded (range fcode) v.y
  along = bounded fcode v.y (and_right (in_range (low fcode) (high fcode) v.x) (in_range (low fcode) (high fcode) v.y) e)

  -- a vector in range can be added to
  pub in_within : Within 2048 v
  in_within =
      let m = range_most fcode f in
      record {
        x_above = omega (arith, m, across.up);
        x_below = omega (arith, m, across.down);
        y_above = omega (arith, m, along.up);
        y_below = omega (arith, m, along.down);
      }

  one : (z : ℤ) → Bounded (range fcode) z → in_range (negsuc 2047) (pos 2047) z ≡ true
  one z b =
      let m = range_most fcode f in
      both (le_is (negsuc 2047) z (omega (arith, m, b.down))) (le_is z (pos 2047) (omega (arith, m, b.up, range_least fcode)))

  -- and interpolation takes it
  pub in_interpolation : vector_in_range v ≡ true
  in_interpolation = both (one v.x across) (one v.y along)
