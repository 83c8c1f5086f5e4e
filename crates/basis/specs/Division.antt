-- Division rounded down. The quotient of z by m is the library's `shr_z z m`; here is what is left.
use Rattle.std.specs.Prelude.{ℕ, ◌-◌, ◌%◌, ℤ, pos, negsuc}

-- z less m times its quotient by m: 0 up to m - 1
abbrev pub rest_z : ℤ → ℕ → ℕ
rest_z (pos n) m = n % m
rest_z (negsuc n) m = (m - 1) - n % m
