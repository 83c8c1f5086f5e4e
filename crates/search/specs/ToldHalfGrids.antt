-- Told, not believed: the sums on lent half grids, and what the search of their ring keeps. Apart from ToldGrids, which the ghost field
-- of the grids cites.
use Rattle.std.specs.Prelude.{ℕ, ◌<◌, ◌≡◌}
use mathlib.Core.List.{foldl}
use Rattle.record.specs.declared.MotionVector.{MotionVector}
use Rattle.full_search.specs.declared.Scored.{Scored}
use Rattle.full_search.specs.Costs.{consider}
use Rattle.search.specs.declared.half_grids.HalfGrids.{HalfGrids}
use Rattle.search.specs.Sub.{neighbour, ring}
use Rattle.search.specs.ToldGrids.{grid_sum, Grids}

-- they are a source block and three grids
abbrev pub LentGrids : HalfGrids → Type 0
LentGrids g = Grids g.side g.source.now g.right.now g.under.now g.diagonal.now

-- the sum on the window of place n
abbrev pub lent_sum : HalfGrids → ℕ → ℕ
lent_sum g = grid_sum g.side g.source.now g.right.now g.under.now g.diagonal.now

-- the sums on the windows are those of the ring around c
pub record RingSums (g : HalfGrids) (fcode : ℕ) (c : MotionVector) (sum : MotionVector → ℕ) : Type 0 where
  pub each : (n : ℕ) → n < 9 → (n ≡ 4 → ⊥) → lent_sum g n ≡ sum (neighbour fcode 1 c n)

-- whatever they are the sums of: the best of b and the ring
pub record RingKept (g : HalfGrids) (fcode : ℕ) (c : MotionVector) (b r : Scored) : Type 0 where
  pub kept : (sum : MotionVector → ℕ) → RingSums g fcode c sum → r ≡ foldl (consider sum) b (ring fcode 1 c)
