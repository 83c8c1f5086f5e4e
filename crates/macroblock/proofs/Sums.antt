-- The sum of the source against the reader's prediction is the search's own sum, for every vector. Assumes nothing.
use Prim.Native.Nat.{ℕ, ◌+◌, ◌*◌, ◌/◌, ◌%◌, ◌<◌}
use native.Mathlib.Omega.{arith}
use mathlib.Core.Path.{◌≡◌, fun_ext, ◌∙◌}
use lib.IntN.{pos}
use lib.ListN.{get_or}
use Rattle.basis.proofs.Lists.{get_or-raster}
use Rattle.plane.specs.Plane.{copied}
use Rattle.plane.specs.Source.{packed, eight_of}
use Rattle.full_search.specs.Block.{eight}
use Rattle.search.specs.Sums.{vector_sum}
use Rattle.search.proofs.WholeSums.{sum_of_blocks}
use Rattle.macroblock.specs.Request.{Request, source, search_in, sought_in}
use Rattle.macroblock.specs.Answer.{Answer}
use Rattle.macroblock.specs.Demand.{one_sum, block_sum}

module _ (rounding : ℕ) (q : Request) (a : Answer) where
  -- the source's luma at column i and row j of the macroblock
  abbrev sample : ℕ → ℕ → ℕ
  sample = copied (packed q.y q.size) (pos (16 * q.place.column)) (pos (16 * q.place.row))

  -- and of 8 x 8 block n
  abbrev part : ℕ → ℕ → ℕ → ℕ
  part n i j = get_or (source q).y ((8 * (n / 2) + j) * 16 + (8 * (n % 2) + i)) 0

  pub one_sums : one_sum rounding q a ≡ vector_sum (search_in rounding q.settings) (sought_in q)
  one_sums =
      fun_ext
      (sum_of_blocks (search_in rounding q.settings) (sought_in q) (source q).y (λ i j h k. get_or-raster 16 16 sample i j 0 h k))

  pub block_sums : (n : ℕ) → n < 4 → block_sum rounding q a n ≡ vector_sum (search_in rounding q.settings) (eight (sought_in q) n)
  block_sums n less =
      fun_ext
      (sum_of_blocks (search_in rounding q.settings) (eight (sought_in q) n) (eight_of (source q).y n)
      (λ i j h k.
      get_or-raster 8 8 (part n) i j 0 h k
      ∙ get_or-raster 16 16 sample (8 * (n % 2) + i) (8 * (n / 2) + j) 0 (omega arith) (omega arith)))
