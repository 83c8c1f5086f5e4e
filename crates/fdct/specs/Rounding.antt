-- A double as a coefficient (rules T5, T6): to the nearest, halves away from zero, then clamped to -2,048..2,047.
use Rattle.std.specs.Prelude.{ℕ, ◌+◌, ◌*◌, ◌/◌, Bool, true, false, ℤ, pos, negsuc, neg_ℤ, Float}
use Rattle.std.specs.Float.{nan, inf, fin}
use Rattle.std.specs.Float.Ieee.{up, down}
use Rattle.basis.specs.Cut.{cut_to}

-- n / d to the nearest whole number, a half upward
abbrev pub nearest_up : ℕ → ℕ → ℕ
nearest_up n d = (2 * n + d) / (2 * d)

-- a double's size, so rounded: a NaN counts as 0 and an infinity as beyond the range, though no residual gives either
unfoldable pub rounded_size : Float → ℕ
rounded_size nan = 0
rounded_size (inf s) = 4096
rounded_size (fin s m e) = nearest_up (m * up e) (down e)

abbrev pub negative : Float → Bool
negative nan = false
negative (inf s) = s
negative (fin s m e) = s

-- a size with a sign, a minus where the first is true
abbrev pub with_sign : Bool → ℕ → ℤ
with_sign false n = pos n
with_sign true n = neg_ℤ (pos n)

unfoldable pub coefficient_of : Float → ℤ
unfolding rounded_size
coefficient_of x = cut_to (negsuc 2047) (pos 2047) (with_sign (negative x) (rounded_size x))
