-- Rows of a block's sum, for either side. Assumes nothing.
use Prim.Native.Nat.{ℕ, ◌+◌, ◌-◌, ◌*◌}
use mathlib.Core.List.{List}
use mathlib.Core.Path.{◌≡◌, ap₂}
use lib.ListN.{get_or, take, drop}
use Rattle.basis.specs.Sums.{sum_to, abs_diff}
use Rattle.basis.proofs.Slices.{part_at}
use Rattle.basis.proofs.Sums.{Summed, sum_to_cong, sum_to_pairs}
use Rattle.full_search.specs.declared.Lines.{Lines}
use Rattle.full_search.specs.ToldPatch.{line_at, row_sum, lines_sum}

-- the first i differences of two rows are summed
abbrev pub RowSummed : ℕ → List ℕ → List ℕ → ℕ → ℕ → Type 0
RowSummed side a b i sum = Summed 255 side (λ k. abs_diff (get_or a k 0) (get_or b k 0)) i sum

module _ (side : ℕ) (source : List ℕ) (apart : ℕ) (window : List ℕ) (at : Lines) where
  -- the sum of the two parts that the code cuts for row j
  pub row_parts : (j : ℕ)
      → let s = j * apart in
      let w = line_at at j in
      sum_to side (λ i. abs_diff (get_or (take (s + side - s) (drop s source)) i 0) (get_or (take (w + side - w) (drop w window)) i 0))
      ≡ row_sum side source apart window at j
  row_parts j = sum_to_cong side _ _ (λ i h. ap₂ abs_diff (part_at source (j * apart) side i 0 h) (part_at window (line_at at j) side i 0 h))

  -- rows 2 k and 2 k + 1
  abbrev pub two_rows : ℕ → ℕ
  two_rows k = row_sum side source apart window at (2 * k) + row_sum side source apart window at (2 * k + 1)

  -- the first 2 k rows of 2 n are summed
  abbrev pub RowsSummed : ℕ → ℕ → ℕ → Type 0
  RowsSummed n k sum = Summed 8160 n two_rows k sum

  pub all_rows : (n : ℕ) → 2 * n ≡ side → sum_to n two_rows ≡ lines_sum side source apart window at
  unfolding lines_sum
  all_rows n e = rw e at (sum_to_pairs n (row_sum side source apart window at))
