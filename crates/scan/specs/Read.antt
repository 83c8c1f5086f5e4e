-- Reading a block's events (rules R4, R5), and the promise that it gives the block's levels back.
-- The reader goes by the marks alone and never sees the count.
use Rattle.std.specs.Prelude.{ℕ, ◌+◌, cond, List, [], ◌∷◌, ◌≡◌, eqb, ℤ, pos, length, replicate, set}
use Rattle.scan.specs.Event.{events_of, lasts_area, runs_area, levels_area}
use Rattle.scan.specs.Grid.{grid_of, scanned, unscanned}

-- each event, up to and with the one marked last, adds its run to the counter, puts its level at the scan place so counted and adds 1
abbrev pub read_from : ℕ → List ℕ → List ℕ → List ℤ → List ℤ → List ℤ
read_from counter [] runs levels block = block
read_from counter (last ∷ lasts) [] levels block = block
read_from counter (last ∷ lasts) (run ∷ runs) [] block = block
read_from counter (last ∷ lasts) (run ∷ runs) (level ∷ levels) block =
    cond (eqb last 0) (read_from (counter + run + 1) lasts runs levels (set block (counter + run) level)) (set block (counter + run) level)

-- the levels start at 0, and so does the counter
abbrev pub read_events : List ℕ → List ℕ → List ℤ → List ℤ
read_events lasts runs levels = read_from 0 lasts runs levels (replicate 64 (pos 0))

-- a block by rows, from events whose scan places are those of scan s
abbrev pub read_block : ℕ → List ℕ → List ℕ → List ℤ → List ℤ
read_block s lasts runs levels = unscanned (grid_of s) (read_events lasts runs levels)

-- three areas and a count, for a block's levels in scan order
pub record ReadsBack (levels : List ℤ) (lasts runs : List ℕ) (values : List ℤ) (count : ℕ) : Type 0 where
  -- a reader of the areas gets the levels
  pub same : read_events lasts runs values ≡ levels
  -- no levels, no events
  pub none : levels ≡ replicate 64 (pos 0) → count ≡ 0
  pub empty : count ≡ 0 → levels ≡ replicate 64 (pos 0)

-- a block's levels by rows, put into scan order and made events of, read back
pub record BlockReadsBack (s : ℕ) (levels : List ℤ) : Type 0 where
  pub same : read_block s (lasts_area (scanned (grid_of s) levels)) (runs_area (scanned (grid_of s) levels)) (levels_area (scanned (grid_of s) levels)) ≡ levels
  pub none : levels ≡ replicate 64 (pos 0) → length (events_of (scanned (grid_of s) levels)) ≡ 0
  pub empty : length (events_of (scanned (grid_of s) levels)) ≡ 0 → levels ≡ replicate 64 (pos 0)
