-- How a residual of six blocks is coded (`quantise_inter_block`, `quantise_inter_residual`, `inter_cbp`): each block is transformed,
-- quantised, put into scan order and made events of; the patterns say which blocks have an event.
use Rattle.std.specs.Prelude.{ℕ, ◌+◌, ◌*◌, ◌≡◌, Bool, cond, List, eqb, ℤ, length, get_or}
use Rattle.basis.specs.Lists.{tabulate, rows}
use Rattle.fdct.specs.Block.{coefficients}
use Rattle.quantise.specs.Block.{block_levels}
use Rattle.scan.specs.Grid.{grid_of, scanned}
use Rattle.scan.specs.Event.{events_of, lasts_area, runs_area, levels_area}
use Rattle.reader.specs.Handed.{Areas, areas, part_of}
use Rattle.coding.specs.declared.EventAreas.{EventAreas}
use Rattle.coding.specs.declared.Patterns.{Patterns}
use Rattle.coding.specs.declared.Quantising as lent

-- the coefficients of all six blocks: each block's transform
unfoldable pub transformed : List ℤ → List ℤ
transformed residual = rows 6 (λ b. coefficients (part_of b residual))

-- what levels and events are made by: whether by the first method, the quantiser, the first method's weights, the scan
pub record Quantising : Type 0 where
  pub first : Bool
  pub quantiser : ℕ
  pub weights : List ℕ
  pub scan : ℕ

abbrev pub quantising_of : ℕ → Bool → List ℕ → ℕ → Quantising
quantising_of q first weights scan = record { first = first; quantiser = q; weights = weights; scan = scan }

-- with lent weights
abbrev pub lent_quantising : lent.Quantising → Quantising
lent_quantising by = quantising_of by.quantiser by.first_method by.weights.now by.scan

-- what stands in lent areas
abbrev pub lent_areas : EventAreas → Areas
lent_areas a = areas a.lasts.now a.runs.now a.levels.now

-- these are the areas that were lent, whatever stands in them
pub record SameAreas (old new : EventAreas) : Type 0 where
  pub lasts_same : new.lasts.ghost_name ≡ old.lasts.ghost_name
  pub runs_same : new.runs.ghost_name ≡ old.runs.ghost_name
  pub levels_same : new.levels.ghost_name ≡ old.levels.ghost_name

module _ (by : Quantising) where
  -- a block's levels, by rows
  unfoldable pub quantised : List ℤ → List ℤ
  quantised block = block_levels by.first by.quantiser by.weights (coefficients block)

  -- in scan order
  abbrev pub in_scan : List ℤ → List ℤ
  in_scan block = scanned (grid_of by.scan) (quantised block)

  -- the number of its events
  abbrev pub count_of : List ℤ → ℕ
  count_of block = length (events_of (in_scan block))

  -- the levels of all six blocks: those of the quantised residual
  unfoldable pub levels_of : List ℤ → List ℤ
  levels_of residual = rows 6 (λ b. quantised (part_of b residual))

  -- a block's areas: its events, the rest 0
  abbrev pub block_areas : List ℤ → Areas
  block_areas block = areas (lasts_area (in_scan block)) (runs_area (in_scan block)) (levels_area (in_scan block))

  -- the areas of all six, one block's after the other's
  unfoldable pub areas_of : List ℤ → Areas
  areas_of residual =
      areas
      (rows 6 (λ b. (block_areas (part_of b residual)).lasts))
      (rows 6 (λ b. (block_areas (part_of b residual)).runs))
      (rows 6 (λ b. (block_areas (part_of b residual)).levels))

  -- the six counts
  unfoldable pub counts_of : List ℤ → List ℕ
  counts_of residual = tabulate 6 (λ b. count_of (part_of b residual))

-- 1 for a block that has an event
abbrev pub bit : ℕ → ℕ
bit count = cond (eqb count 0) 0 1

-- block 0 is the bit worth 8, block 3 worth 1
unfoldable pub luma_pattern_of : List ℕ → ℕ
luma_pattern_of counts = 8 * bit (get_or counts 0 0) + 4 * bit (get_or counts 1 0) + 2 * bit (get_or counts 2 0) + bit (get_or counts 3 0)

-- Cb is worth 2, Cr 1
unfoldable pub chroma_pattern_of : List ℕ → ℕ
chroma_pattern_of counts = 2 * bit (get_or counts 4 0) + bit (get_or counts 5 0)

abbrev pub patterns_of : List ℕ → Patterns
patterns_of counts = record { luma = luma_pattern_of counts; chroma = chroma_pattern_of counts }
