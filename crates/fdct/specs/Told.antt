-- Told, not believed: how the code arranges a block, so that eight sums run side by side, and how it rounds.
use Rattle.std.specs.Prelude.{ℕ, zero, suc, ◌+◌, ◌*◌, ◌/◌, ◌%◌, min, Bool, true, false, cond, List, ℤ, pos, neg_ℤ, Float, get_or}
use Rattle.std.specs.Float.{nan, fin, binary64}
use Rattle.std.specs.Float.Ieee.{add, sub, mul, lt, le, eq, neg, of_int}
use Rattle.basis.specs.Lists.{tabulate}
use Rattle.fdct.specs.Cosine.{cosine}
use Rattle.fdct.specs.Double.{zero_double, half_double, one_double}
use Rattle.fdct.specs.Line.{fdct1d}

-- the entries of a list, by their places
abbrev pub entries : List Float → ℕ → Float
entries l k = get_or l k nan

-- row y and column j of a block, eight to a row
abbrev pub row_of : (ℕ → Float) → ℕ → ℕ → Float
row_of block y x = block (y * 8 + x)

abbrev pub column_of : (ℕ → Float) → ℕ → ℕ → Float
column_of block j x = block (x * 8 + j)

-- place k of the residuals, as a double
abbrev pub sample_at : List ℤ → ℕ → Float
sample_at r k = of_int binary64 (get_or r k (pos 0))

-- the sum of n products, from 0 on
unfoldable pub dot : (ℕ → Float) → (ℕ → Float) → ℕ → Float
dot f g zero = zero_double
dot f g (suc x) = add binary64 (dot f g x) (mul binary64 (f x) (g x))

-- the cosines with rows and columns swapped: that for u, x at 8 x + u
unfoldable pub swapped_cosines : List Float
unfolding cosine tabulate
swapped_cosines = tabulate 64 (λ k. cosine (k % 8) (k / 8))

-- column u and row y of the rows' pass: entry u of the transform of row y
abbrev pub across_at : (ℕ → Float) → ℕ → ℕ → Float
across_at block u y = fdct1d (row_of block y) u

-- column j and row u of the columns' pass: entry u of the transform of column j
abbrev pub passed_at : (ℕ → Float) → ℕ → ℕ → Float
passed_at block j u = fdct1d (column_of block j) u

-- a size cut to -2,048..2,047 with its sign
abbrev pub cut_size : Bool → ℕ → ℤ
cut_size false n = pos (min n 2047)
cut_size true n = neg_ℤ (pos (min n 2048))

-- x without its sign
abbrev pub sized : Float → Float
sized x = cond (lt x zero_double) (neg x) x

-- x, and 0 for a NaN; then at most 2,047; then at least -2,048
abbrev pub known : Float → Float
known x = cond (eq x x) x zero_double

abbrev pub highest : Float
highest = fin false 2047 (pos 0)

abbrev pub lowest : Float
lowest = fin true 1 (pos 11)

abbrev pub not_above : Float → Float
not_above x = cond (lt x highest) x highest

abbrev pub not_below : Float → Float
not_below x = cond (lt lowest x) x lowest

-- 2 ^ 52 added and taken away
abbrev pub ground : Float
ground = fin false 1 (pos 52)

abbrev pub rested : Float → Float
rested x = sub binary64 (add binary64 x ground) ground

-- 1 where x lies a half or more above t
abbrev pub carried : Float → Float → Float
carried t x = cond (le (add binary64 t half_double) x) one_double zero_double
