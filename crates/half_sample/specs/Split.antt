-- The split of a vector component in half samples: whole samples, rounded down, and whether half a sample is left.
use Rattle.std.specs.Prelude.{Bool, not, eqb, ℤ}
use Rattle.std.specs.Int.Signed.{shr_z}
use Rattle.basis.specs.Division.{rest_z}
use Rattle.half_sample.specs.declared.HalfPel.{HalfPel}

abbrev pub half_of : ℤ → Bool
half_of z = not (eqb (rest_z z 2) 0)

abbrev pub split_half : ℤ → HalfPel
split_half z = record { whole = shr_z z 2; half = half_of z }
