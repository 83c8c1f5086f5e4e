-- The doubles that the transform is written with. `round binary64` gives the double nearest a fraction, and `fin s m e` is m times
-- two to the e, with a minus where s is true.
use Rattle.std.specs.Prelude.{ℕ, ◌^◌, false, pos, negsuc, Float}
use Rattle.std.specs.Float.{fin, binary64}
use Rattle.std.specs.Float.Ieee.{round}

abbrev pub zero_double : Float
zero_double = fin false 0 (pos 0)

abbrev pub one_double : Float
one_double = fin false 1 (pos 0)

abbrev pub half_double : Float
half_double = fin false 1 (negsuc 0)

-- the double nearest n / 10 ^ 20, a decimal of twenty places
unfoldable pub nearest_double : ℕ → Float
unfolding round
nearest_double n = round binary64 false n (10 ^ 20)
