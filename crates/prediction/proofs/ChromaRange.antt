-- The chroma vector of vectors in -2,048..2,047 lies there too: no part of it is over 1,026 in size. Assumes nothing.
use Prim.Native.Nat.{ℕ, ◌+◌, ◌*◌, ◌/◌, ◌%◌, ◌≤◌}
use native.Mathlib.Omega.{arith}
use mathlib.Core.Bool.{Bool, true, false, cond}
use mathlib.Core.Path.{◌≡◌}
use lib.Dec.{eqb, leb}
use lib.IntN.{ℤ, pos, negsuc, nat_abs, ◌+ℤ◌, ◌*ℤ◌}
use lib.Signed.{shr_z}
use Rattle.basis.specs.Division.{rest_z}
use Rattle.basis.proofs.Case.{both}
use Rattle.basis.proofs.Sizes.{size_add, size_times, size_signed}
use Rattle.refusal.specs.Test.{in_range}
use Rattle.refusal.proofs.Tests.{and_left, and_right, size_in}
use Rattle.record.specs.declared.MotionVector.{MotionVector}
use Rattle.plane.specs.Reference.{vector_in_range}
use Rattle.prediction.specs.declared.BVopSampleMode.{BVopSampleMode}
use Rattle.prediction.specs.declared.BVopSampleMode.TheVariants.{HalfPel, QuarterPel}
use Rattle.prediction.specs.declared.PvopMbMotion.{PvopMbMotion}
use Rattle.prediction.specs.declared.PvopMbMotion.TheVariants.{OneMv, FourMv}
use Rattle.prediction.specs.Chroma.{in_halves, chroma_of_one, halves_of, chroma_of_sum, chroma_vector, motion_in_range}
use Rattle.prediction.proofs.Sizes.{in_size, size_quarter, size_half}

-- both parts of a vector
pub part_x : (v : MotionVector) → vector_in_range v ≡ true → nat_abs v.x ≤ 2048
part_x v e = size_in 2047 2047 v.x (and_left _ _ e) (omega arith)

pub part_y : (v : MotionVector) → vector_in_range v ≡ true → nat_abs v.y ≤ 2048
part_y v e = size_in 2047 2047 v.y (and_right (in_range (negsuc 2047) (pos 2047) v.x) _ e) (omega arith)

-- each of four vectors
module _ (a b c d : MotionVector) (e : motion_in_range (FourMv a b c d) ≡ true) where
  pub first_in : vector_in_range a ≡ true
  first_in = and_left _ _ e

  pub second_in : vector_in_range b ≡ true
  second_in = and_left _ _ (and_right (vector_in_range a) _ e)

  pub third_in : vector_in_range c ≡ true
  third_in = and_left _ _ (and_right (vector_in_range b) _ (and_right (vector_in_range a) _ e))

  pub fourth_in : vector_in_range d ≡ true
  fourth_in = and_right (vector_in_range c) _ (and_right (vector_in_range b) _ (and_right (vector_in_range a) _ e))

-- in half samples a component is no larger
pub halves_size : (m : BVopSampleMode) (z : ℤ) → nat_abs (in_halves m z) ≤ nat_abs z
halves_size HalfPel z = omega arith
halves_size (QuarterPel bpp) z = size_half z

pub halves_in : (m : BVopSampleMode) (z : ℤ) → nat_abs z ≤ 2048 → nat_abs (in_halves m z) ≤ 2048
halves_in m z h = omega (arith, halves_size m z)

-- and so are four together
pub four_size : (m : BVopSampleMode) (a b c d : ℤ) → nat_abs a ≤ 2048 → nat_abs b ≤ 2048 → nat_abs c ≤ 2048 → nat_abs d ≤ 2048
    → nat_abs (in_halves m a +ℤ in_halves m b +ℤ in_halves m c +ℤ in_halves m d) ≤ 8192
four_size m a b c d ha hb hc hd =
    let p = in_halves m a in
    let q = in_halves m b in
    let r = in_halves m c in
    let s = in_halves m d in
    omega
    (arith, halves_size m a, halves_size m b, halves_size m c, halves_size m d, size_add p q, size_add (p +ℤ q) r, size_add (p +ℤ q +ℤ r) s)

-- sixteenths left over are at most 2 halves
pub halves_most : (r : ℕ) → halves_of r ≤ 2
halves_most r = by (leb r 2) (leb r 13)
  where
    by : (t u : Bool) → cond t 0 (cond u 1 2) ≤ 2
    by true u = omega arith
    by false true = omega arith
    by false false = omega arith

-- what four vectors give, and what one gives
pub sum_size : (z : ℤ) → nat_abs z ≤ 8192 → 2 * (nat_abs z / 16) + halves_of (nat_abs z % 16) ≤ 1026
sum_size z h = omega (arith, halves_most (nat_abs z % 16))

pub one_size : (z : ℤ) → nat_abs z ≤ 2048 → nat_abs (chroma_of_one z) ≤ 1025
one_size z h = by (eqb (rest_z z 4) 0)
  where
    by : (t : Bool) → nat_abs (shr_z z 4 *ℤ pos 2 +ℤ pos (cond t 0 1)) ≤ 1025
    by true = omega (arith, size_quarter z h, size_times (shr_z z 4) 2, size_add (shr_z z 4 *ℤ pos 2) (pos 0))
    by false = omega (arith, size_quarter z h, size_times (shr_z z 4) 2, size_add (shr_z z 4 *ℤ pos 2) (pos 1))

pub of_sum_size : (z : ℤ) → nat_abs z ≤ 8192 → nat_abs (chroma_of_sum z) ≤ 1026
of_sum_size z h = omega (arith, size_signed z (2 * (nat_abs z / 16) + halves_of (nat_abs z % 16)), sum_size z h)

-- in the range
one_in : (m : BVopSampleMode) (z : ℤ) → nat_abs z ≤ 2048 → in_range (negsuc 2047) (pos 2047) (chroma_of_one (in_halves m z)) ≡ true
one_in m z h = in_size (chroma_of_one (in_halves m z)) (omega (arith, one_size (in_halves m z) (halves_in m z h)))

four_in : (m : BVopSampleMode) (a b c d : ℤ) → nat_abs a ≤ 2048 → nat_abs b ≤ 2048 → nat_abs c ≤ 2048 → nat_abs d ≤ 2048
    → in_range (negsuc 2047) (pos 2047) (chroma_of_sum (in_halves m a +ℤ in_halves m b +ℤ in_halves m c +ℤ in_halves m d)) ≡ true
four_in m a b c d ha hb hc hd =
    let z = in_halves m a +ℤ in_halves m b +ℤ in_halves m c +ℤ in_halves m d in
    in_size (chroma_of_sum z) (omega (arith, of_sum_size z (four_size m a b c d ha hb hc hd)))

pub chroma_in-range : (m : BVopSampleMode) (motion : PvopMbMotion) → motion_in_range motion ≡ true → vector_in_range (chroma_vector m motion) ≡ true
unfolding chroma_vector
chroma_in-range m (OneMv v) e = both (one_in m v.x (part_x v e)) (one_in m v.y (part_y v e))
chroma_in-range m (FourMv a b c d) e =
    let ia = first_in a b c d e in
    let ib = second_in a b c d e in
    let ic = third_in a b c d e in
    let id = fourth_in a b c d e in
    both (four_in m a.x b.x c.x d.x (part_x a ia) (part_x b ib) (part_x c ic) (part_x d id))
    (four_in m a.y b.y c.y d.y (part_y a ia) (part_y b ib) (part_y c ic) (part_y d id))
