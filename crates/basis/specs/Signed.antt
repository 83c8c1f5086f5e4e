-- A size with a sign.
use Rattle.std.specs.Prelude.{ℕ, ℤ, pos, negsuc, neg_ℤ}

-- m with the sign of z
abbrev pub signed : ℤ → ℕ → ℤ
signed (pos a) m = pos m
signed (negsuc a) m = neg_ℤ (pos m)
