-- Lists that loops fill, at any element type. They grow at the end, as a loop that counts up does.
use Rattle.std.specs.Prelude.{ℕ, zero, suc, List, [], ◌∷◌, ◌++◌}

module _ {A : Type 0} where
  -- f 0, f 1, .., f (n - 1)
  unfoldable pub tabulate : ℕ → (ℕ → A) → List A
  tabulate zero f = []
  tabulate (suc n) f = tabulate n f ++ (f n ∷ [])

  -- r 0, r 1, .., r (m - 1), joined
  unfoldable pub rows : ℕ → (ℕ → List A) → List A
  rows zero r = []
  rows (suc m) r = rows m r ++ r m

  -- raster order: h rows of w entries, f i j at column i of row j
  abbrev pub raster : ℕ → ℕ → (ℕ → ℕ → A) → List A
  raster w h f = rows h (λ j. tabulate w (λ i. f i j))
