-- A number cut to a range.
use Rattle.std.specs.Prelude.{cond, ℤ}
use Rattle.std.specs.Int.Signed.{lt_z}

-- the number of low .. high that is nearest to z
abbrev pub cut_to : ℤ → ℤ → ℤ → ℤ
cut_to low high z = cond (lt_z z low) low (cond (lt_z high z) high z)
