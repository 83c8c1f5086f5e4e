-- The 8-point transform of a line (rules T2, T3): each product and each sum is one double operation, in the order given.
use Rattle.std.specs.Prelude.{ℕ, zero, suc, cond, eqb, Float}
use Rattle.std.specs.Float.{binary64}
use Rattle.std.specs.Float.Ieee.{add, mul}
use Rattle.fdct.specs.Double.{zero_double, one_double, half_double, nearest_double}
use Rattle.fdct.specs.Cosine.{cosine}

-- the sum for index u over the first n places of a line: it starts at 0
unfoldable pub weighted_sum : (ℕ → Float) → ℕ → ℕ → Float
weighted_sum line u zero = zero_double
weighted_sum line u (suc x) = add binary64 (weighted_sum line u x) (mul binary64 (line x) (cosine u x))

-- c: the double nearest 1 / √2 for index 0, else 1
unfoldable pub weight : ℕ → Float
unfolding nearest_double
weight u = cond (eqb u 0) (nearest_double 70710678118654752440) one_double

-- entry u of a line's transform: (0.5 × c) × sum
unfoldable pub fdct1d : (ℕ → Float) → ℕ → Float
unfolding weighted_sum weight
fdct1d line u = mul binary64 (mul binary64 half_double (weight u)) (weighted_sum line u 8)
