-- Levels for inter blocks, and what a level stands for (rules L1 to L4). A difference of sizes that would be below 0 is 0, as ℕ has it.
use Rattle.std.specs.Prelude.{ℕ, ◌+◌, ◌*◌, ◌-◌, ◌/◌, ◌%◌, cond, eqb, ℤ, pos, negsuc, nat_abs}
use Rattle.basis.specs.Cut.{cut_to}
use Rattle.basis.specs.Signed.{signed}

-- the second method, before sign and cut: max(|f| - floor(q/2), 0) / 2q without its fraction
abbrev pub quotient_by_quantiser : ℕ → ℤ → ℕ
quotient_by_quantiser q f = (nat_abs f - q / 2) / (2 * q)

-- with the sign of f, cut to -2,047..2,047
unfoldable pub level_by_quantiser : ℕ → ℤ → ℤ
level_by_quantiser q f = cut_to (negsuc 2046) (pos 2047) (signed f (quotient_by_quantiser q f))

-- the first method, d being w q: max(16|f| - d, 0) / 2d
abbrev pub quotient_by_weight : ℕ → ℕ → ℤ → ℕ
quotient_by_weight w q f = (16 * nat_abs f - w * q) / (2 * (w * q))

unfoldable pub level_by_weight : ℕ → ℕ → ℤ → ℤ
level_by_weight w q f = cut_to (negsuc 2046) (pos 2047) (signed f (quotient_by_weight w q f))

-- q (2l + 1), less 1 for even q
abbrev pub inverse_size : ℕ → ℕ → ℕ
inverse_size q l = cond (eqb (q % 2) 0) (q * (2 * l + 1) - 1) (q * (2 * l + 1))

-- the inverse of the second method: 0 gives 0, else the size above with the level's sign, saturated to -2,048..2,047
unfoldable pub inverse_by_quantiser : ℕ → ℤ → ℤ
inverse_by_quantiser q l = cond (eqb (nat_abs l) 0) (pos 0) (cut_to (negsuc 2047) (pos 2047) (signed l (inverse_size q (nat_abs l))))
