-- Told, not believed: what the rows of a block are told of a call that fills one of them, and what they then are.
use Rattle.std.specs.Prelude.{ℕ, ◌<◌, ◌≡◌, List, length}
use denote.Ref.{MutBor}
use Rattle.basis.specs.Lists.{tabulate, raster}

-- it may be called for each row, where a row of the block's width is lent
pub record CallableRows (may : ℕ → MutBor (List ℕ) → Type 0) (w h : ℕ) : Type 0 where
  pub each : (j : ℕ) (part : MutBor (List ℕ)) → j < h → length part.now ≡ w → may j part

-- each call leaves row j of what f gives
pub record FillsRows (gives : ℕ → MutBor (List ℕ) → MutBor (List ℕ) → Type 0) (w h : ℕ) (f : ℕ → ℕ → ℕ) : Type 0 where
  pub each : (j : ℕ) (part left : MutBor (List ℕ)) → j < h → length part.now ≡ w → gives j part left
      → left.now ≡ tabulate w (λ i. f i j)

-- whatever block they are the rows of: that block
pub record FilledBy (gives : ℕ → MutBor (List ℕ) → MutBor (List ℕ) → Type 0) (w h : ℕ) (out : List ℕ) : Type 0 where
  pub filled : (f : ℕ → ℕ → ℕ) → FillsRows gives w h f → out ≡ raster w h f
