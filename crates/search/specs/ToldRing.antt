-- Told, not believed: what the search of a ring is told of a call that gives the cost of a place, and what it then keeps.
use Rattle.std.specs.Prelude.{ℕ, ◌<◌, ◌≤◌, true, ◌≡◌}
use mathlib.Core.List.{foldl}
use Rattle.refusal.specs.Test.{between}
use Rattle.record.specs.declared.MotionVector.{MotionVector}
use Rattle.full_search.specs.declared.Scored.{Scored}
use Rattle.full_search.specs.Costs.{consider}
use Rattle.full_search.specs.Told.{Within}
use Rattle.search.specs.Sub.{neighbour, ring}

-- a centre that neighbours can be made of
pub record Centre (fcode step : ℕ) (c : MotionVector) : Type 0 where
  pub centre_small : Within 4096 c
  pub fcode_usable : between 1 7 fcode ≡ true
  pub step_small : step ≤ 2

-- it may be called at each place
pub record CallableAround (may : ℕ → MotionVector → Type 0) (fcode step : ℕ) (c : MotionVector) : Type 0 where
  pub each : (n : ℕ) → n < 9 → may n (neighbour fcode step c n)

-- what it gives are sums of the places, but for the centre
pub record SumsAround (gives : ℕ → MotionVector → ℕ → Type 0) (fcode step : ℕ) (c : MotionVector) (sum : MotionVector → ℕ) : Type 0 where
  pub each : (n cost : ℕ) → n < 9 → (n ≡ 4 → ⊥) → gives n (neighbour fcode step c n) cost → cost ≡ sum (neighbour fcode step c n)

-- whatever they are the sums of: the best of b and the ring
pub record KeptBy (gives : ℕ → MotionVector → ℕ → Type 0) (fcode step : ℕ) (c : MotionVector) (b r : Scored) : Type 0 where
  pub kept : (sum : MotionVector → ℕ) → SumsAround gives fcode step c sum → r ≡ foldl (consider sum) b (ring fcode step c)
