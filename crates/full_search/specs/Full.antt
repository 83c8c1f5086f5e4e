-- The full-sample lists of one vector and of four, each one list, and their winners. Rules C5 to C9, C14.
use Rattle.std.specs.Prelude.{ℕ, cond, List, ◌∷◌, ◌++◌, ltb, ℤ, pos, negsuc, ◌-ℤ◌}
use Rattle.std.specs.Int.Signed.{quot_z}
use Rattle.basis.specs.Least.{best, grown}
use Rattle.record.specs.declared.MotionVector.{MotionVector}
use Rattle.record.specs.Zero.{zero_vector}
use Rattle.prediction.specs.declared.BVopSampleMode.{BVopSampleMode}
use Rattle.prediction.specs.Luma.{units_per_pel}
use Rattle.full_search.specs.declared.Row.{Row}
use Rattle.full_search.specs.declared.Square.{Square}
use Rattle.full_search.specs.Places.{down, row_of, square_of, lattice}
use Rattle.full_search.specs.Block.{Block}

-- ---- one vector

abbrev pub near_square : Square
near_square = record { from = record { x = negsuc 7; y = negsuc 7 }; count = 17; outer = 8 }

-- rows -8 .. 8, in each the columns -8 .. 8
abbrev pub near_rows : List MotionVector
near_rows = square_of near_square

-- row j of the dense pass: seven columns around the best so far; y is the row of the lattice's winner
abbrev pub dense_row_at : ℕ → ℤ → MotionVector → ℕ → Row
dense_row_at w y c j =
    record { from = down (record { x = c.x -ℤ pos 3; y = y -ℤ pos 3 }) j; step = 1; count = 7; inner = 0; outer = w }

abbrev pub dense_row : ℕ → ℤ → MotionVector → ℕ → List MotionVector
dense_row w y c j = row_of (dense_row_at w y c j)

-- the lattice of a block's place
abbrev pub lattice_of : ℕ → Block → List MotionVector
lattice_of w b = lattice w b.corner b.reference.width b.reference.height

-- the rows and the lattice
abbrev pub coarse : ℕ → Block → List MotionVector
coarse w b = near_rows ++ lattice_of w b

-- the best of zero and the rows
abbrev pub near_best : (MotionVector → ℕ) → MotionVector
near_best cost = best cost zero_vector near_rows

module _ (cost : MotionVector → ℕ) (w : ℕ) (b : Block) where
  -- the best of zero, the rows and the lattice
  abbrev pub coarse_best : MotionVector
  coarse_best = best cost zero_vector (coarse w b)

  -- the rows and the lattice; if the lattice won, the dense pass
  abbrev pub wide_rest : List MotionVector
  wide_rest =
      cond (ltb (cost coarse_best) (cost (near_best cost)))
      (grown cost zero_vector (dense_row w coarse_best.y) (coarse w b) 7) (coarse w b)

module _ (cost : MotionVector → ℕ) (fcode w : ℕ) (b : Block) where
  -- the rows; for fcode above 1 the lattice and what follows it
  unfoldable pub full_rest : List MotionVector
  full_rest = cond (ltb 1 fcode) (wide_rest cost w b) near_rows

  -- THE LIST of one vector
  abbrev pub full_list : List MotionVector
  full_list = zero_vector ∷ full_rest

  unfoldable pub full_winner : MotionVector
  full_winner = best cost zero_vector full_rest

-- ---- four vectors: zero, then the 5 x 5 around the seed divided toward zero, inside the window

abbrev pub seed_from : BVopSampleMode → MotionVector → MotionVector
seed_from m seed = record { x = quot_z seed.x (pos (units_per_pel m)) -ℤ pos 2; y = quot_z seed.y (pos (units_per_pel m)) -ℤ pos 2 }

abbrev pub seed_square : ℕ → BVopSampleMode → MotionVector → Square
seed_square w m seed = record { from = seed_from m seed; count = 5; outer = w }

unfoldable pub four_rest : ℕ → BVopSampleMode → MotionVector → List MotionVector
four_rest w m seed = square_of (seed_square w m seed)

-- THE LIST of one of four
abbrev pub four_list : ℕ → BVopSampleMode → MotionVector → List MotionVector
four_list w m seed = zero_vector ∷ four_rest w m seed

unfoldable pub four_winner : (MotionVector → ℕ) → ℕ → BVopSampleMode → MotionVector → MotionVector
four_winner cost w m seed = best cost zero_vector (four_rest w m seed)
