-- The reader gets each block's levels back, and hence all 384. Assumes nothing.
use Prim.Native.Nat.{ℕ, ◌<◌}
use mathlib.Core.Bool.{Bool, true, false, cond, not}
use mathlib.Core.List.{List}
use mathlib.Core.Path.{◌≡◌, refl, sym, ap, ◌∙◌}
use borrow.Author.Tests.{eqb-true}
use lib.Dec.{eqb}
use lib.IntN.{ℤ, pos}
use lib.ListN.{length, get_or, replicate}
use Rattle.basis.proofs.Lists.{get_or-tabulate, row_of_lem, rows_cong}
use Rattle.record.specs.Pattern.{is_coded}
use Rattle.fdct.specs.Block.{coefficients}
use Rattle.quantise.proofs.Ranges.{levels-length}
use Rattle.scan.specs.Grid.{grid_of}
use Rattle.scan.specs.Read.{read_block}
use Rattle.scan.proofs.AreaLengths.{lasts_length, runs_length, values_length}
use Rattle.scan.proofs.Grids.{length-scanned}
use Rattle.scan.proofs.ReadBack.{block_reads_back}
use Rattle.reader.specs.Handed.{Areas, Handed, areas, part_of, parts_of}
use Rattle.reader.specs.Levels.{read_part, read_levels}
use Rattle.coding.specs.Coding.{Quantising, quantised, in_scan, count_of, block_areas, levels_of, areas_of, counts_of, luma_pattern_of, chroma_pattern_of}
use Rattle.coding.proofs.Bits.{coded_is}

-- areas that are the same part by part
pub same_areas : {a a' b b' : List ℕ} {c c' : List ℤ} → a ≡ a' → b ≡ b' → c ≡ c' → areas a b c ≡ areas a' b' c'
same_areas p q r = λ i. areas (p i) (q i) (r i)

module _ (by : Quantising) where
  pub quantised-length : (block : List ℤ) → length (quantised by block) ≡ 64
  unfolding quantised
  quantised-length block = levels-length by.first by.quantiser by.weights (coefficients block)

  pub scan_length : (block : List ℤ) → length (in_scan by block) ≡ 64
  scan_length block = length-scanned (grid_of by.scan) (quantised by block)

  -- each of a block's areas has 64 places
  pub lasts_long : (block : List ℤ) → length (block_areas by block).lasts ≡ 64
  lasts_long block = lasts_length (in_scan by block) (scan_length block)

  pub runs_long : (block : List ℤ) → length (block_areas by block).runs ≡ 64
  runs_long block = runs_length (in_scan by block) (scan_length block)

  pub values_long : (block : List ℤ) → length (block_areas by block).levels ≡ 64
  values_long block = values_length (in_scan by block) (scan_length block)

  -- a block of areas, read by its bit
  abbrev read : Bool → ℕ → Areas → List ℤ
  read coded scan a = cond coded (read_block scan a.lasts a.runs a.levels) (replicate 64 (pos 0))

  block_back : (block : List ℤ) (coded : Bool) → coded ≡ not (eqb (count_of by block) 0) → read coded by.scan (block_areas by block) ≡ quantised by block
  block_back block true e = (block_reads_back by.scan (quantised by block) (quantised-length block)).same
  block_back block false e =
      let none = eqb-true (count_of by block) 0 (clear (eqb (count_of by block) 0) e) in
      sym ((block_reads_back by.scan (quantised by block) (quantised-length block)).empty none)
    where
      clear : (t : Bool) → false ≡ not t → t ≡ true
      clear true e = refl
      clear false e = e

  module _ (residual : List ℤ) where
    -- part b of the areas is that block's
    parts_at : (b : ℕ) → b < 6 → parts_of b (areas_of by residual) ≡ block_areas by (part_of b residual)
    unfolding areas_of
    parts_at b h =
        same_areas
        (row_of_lem 64 (λ b. (block_areas by (part_of b residual)).lasts) (λ b. lasts_long (part_of b residual)) 6 b h)
        (row_of_lem 64 (λ b. (block_areas by (part_of b residual)).runs) (λ b. runs_long (part_of b residual)) 6 b h)
        (row_of_lem 64 (λ b. (block_areas by (part_of b residual)).levels) (λ b. values_long (part_of b residual)) 6 b h)

    count_at : (b : ℕ) → b < 6 → get_or (counts_of by residual) b 0 ≡ count_of by (part_of b residual)
    unfolding counts_of
    count_at b h = get_or-tabulate 6 (λ b. count_of by (part_of b residual)) b 0 h

    -- THE LAW: a reader of the areas and the patterns of a residual gets its levels
    module _
        (h : Handed)
        (scan : h.scan ≡ by.scan)
        (held : h.areas ≡ areas_of by residual)
        (luma : h.coded.luma_pattern ≡ luma_pattern_of (counts_of by residual))
        (chroma : h.coded.chroma_pattern ≡ chroma_pattern_of (counts_of by residual)) where
      part_back : (b : ℕ) → b < 6 → read_part h b ≡ quantised by (part_of b residual)
      part_back b less =
          let coded = is_coded h.coded b in
          ap (λ (a : Areas). read coded h.scan (parts_of b a)) held
          ∙ ap (read coded h.scan) (parts_at b less)
          ∙ ap (λ (s : ℕ). read coded s (block_areas by (part_of b residual))) scan
          ∙ block_back (part_of b residual) coded
          (coded_is h.coded (counts_of by residual) luma chroma b less ∙ ap (λ (n : ℕ). not (eqb n 0)) (count_at b less))

      pub levels-back : read_levels h ≡ levels_of by residual
      unfolding read_levels levels_of
      levels-back = rows_cong 6 _ _ part_back
