-- A vector component in quarter samples: whole samples, rounded down, and the quarters above them.
use Rattle.std.specs.Prelude.{ℤ}
use Rattle.std.specs.Int.Signed.{shr_z}
use Rattle.basis.specs.Division.{rest_z}
use Rattle.quarter_sample.specs.declared.QuarterPel.{QuarterPel}

-- -5 is -2 and 3 quarters
abbrev pub split_quarter : ℤ → QuarterPel
split_quarter z = record { whole = shr_z z 4; fraction = rest_z z 4 }
