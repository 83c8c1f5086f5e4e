-- The transform of a block of 64 residuals, eight to a row (rule T1): rows, then columns.
use Rattle.std.specs.Prelude.{ℕ, ◌+◌, ◌*◌, ◌/◌, ◌%◌, List, ℤ, pos, Float, get_or}
use Rattle.std.specs.Float.{binary64}
use Rattle.std.specs.Float.Ieee.{of_int}
use Rattle.basis.specs.Lists.{tabulate}
use Rattle.fdct.specs.Line.{fdct1d}
use Rattle.fdct.specs.Rounding.{coefficient_of}

-- the residual at row y and column x, as a double
abbrev pub sample : List ℤ → ℕ → ℕ → Float
sample r y x = of_int binary64 (get_or r (y * 8 + x) (pos 0))

-- the coefficient at row v and column u: entry u of each row's transform, and of these eight the transform's entry v
unfoldable pub coefficient : List ℤ → ℕ → ℕ → ℤ
unfolding fdct1d coefficient_of
coefficient r v u = coefficient_of (fdct1d (λ y. fdct1d (sample r y) u) v)

-- all 64, eight to a row
unfoldable pub coefficients : List ℤ → List ℤ
unfolding coefficient tabulate
coefficients r = tabulate 64 (λ k. coefficient r (k / 8) (k % 8))
