-- What the settings of a call may be, each once: rules F1, F2, F3, F10, F14 and F31.
use Rattle.std.specs.Prelude.{ℕ, Bool, ◌||◌, eqb}
use Rattle.refusal.specs.Test.{between}

abbrev pub is_fcode : ℕ → Bool
is_fcode n = between 1 7 n

-- half samples, or quarter samples
abbrev pub is_mode : ℕ → Bool
is_mode n = eqb n 0 || eqb n 1

abbrev pub is_bits : ℕ → Bool
is_bits n = between 1 8 n

abbrev pub is_quantiser : ℕ → Bool
is_quantiser n = between 1 31 n

abbrev pub is_vector_count : ℕ → Bool
is_vector_count n = eqb n 1 || eqb n 4

abbrev pub is_rounding_type : ℕ → Bool
is_rounding_type n = between 0 1 n
