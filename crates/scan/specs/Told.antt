-- Told, not believed: what the private functions that scan and write events need of their caller, and what a row's scan leaves.
use Rattle.std.specs.Prelude.{ℕ, zero, suc, ◌<◌, List, ◌≡◌, ℤ, pos, get_or, set}

-- n levels of a row stored at the places that a grid's row names
unfoldable pub put_row : List ℕ → List ℤ → ℕ → List ℤ → List ℤ
put_row row levels zero out = out
put_row row levels (suc n) out = set (put_row row levels n out) (get_or row n 0) (get_or levels n (pos 0))

-- a grid's row, and the lengths of the levels and of the area
pub record RowNeeds (row : List ℕ) (levels area : ℕ) : Type 0 where
  pub levels_long : levels ≡ 8
  pub area_long : area ≡ 64
  pub below : (x : ℕ) → x < 8 → get_or row x 0 < 64

-- the lengths of the levels in scan order, and of the three areas
pub record SixtyFours (levels lasts runs values : ℕ) : Type 0 where
  pub levels_long : levels ≡ 64
  pub lasts_long : lasts ≡ 64
  pub runs_long : runs ≡ 64
  pub values_long : values ≡ 64
