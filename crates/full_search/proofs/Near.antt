-- Displacements of a window have small parts: of each list, and of what a search over it keeps. Assumes nothing.
use Prim.Native.Nat.{ℕ, zero, suc, ◌*◌, ◌≤◌}
use native.Mathlib.Omega.{arith}
use mathlib.Core.Bool.{Bool, true, false, cond}
use mathlib.Core.List.{List, [], ◌∷◌}
use mathlib.Core.Path.{◌≡◌, refl}
use lib.Dec.{ltb}
use lib.IntN.{ℤ}
use Rattle.basis.specs.Least.{grown}
use Rattle.basis.specs.Parts.{above}
use Rattle.basis.proofs.Parts.{size_parts}
use Rattle.basis.proofs.Each.{All, all_append, all_rows, all_grown, first_all, best_all}
use Rattle.refusal.specs.Test.{between}
use Rattle.refusal.proofs.Tests.{between-high}
use Rattle.record.specs.declared.MotionVector.{MotionVector}
use Rattle.record.specs.Zero.{zero_vector}
use Rattle.plane.specs.declared.Point.{Point}
use Rattle.prediction.specs.declared.BVopSampleMode.{BVopSampleMode}
use Rattle.full_search.specs.declared.Scored.{Scored}
use Rattle.full_search.specs.declared.Row.{Row}
use Rattle.full_search.specs.declared.Square.{Square}
use Rattle.full_search.specs.Places.{right, distance, listed, row_of, square_of, square_row, lattice, lattice_from, lattice_row_at, places}
use Rattle.full_search.specs.Block.{Block}
use Rattle.full_search.specs.Costs.{at_cost, consider}
use Rattle.full_search.specs.Full.{near_square, near_rows, near_best, dense_row, dense_row_at, lattice_of, coarse, coarse_best, wide_rest}
use Rattle.full_search.specs.Full.{full_rest, full_list, full_winner, seed_square, four_rest, four_winner}
use Rattle.full_search.specs.Told.{Within}
use Rattle.full_search.specs.ToldKept.{kept_of, found, kept_rows}
use Rattle.full_search.proofs.FullSearch.{winner_first}

pub zero_within : (n : ℕ) → Within n zero_vector
zero_within n = record { x_above = omega arith; x_below = omega arith; y_above = omega arith; y_below = omega arith }

-- a displacement that is at most n samples away
pub distance_within : (n : ℕ) (d : MotionVector) → distance d ≤ n → Within n d
distance_within n d h =
    record {
      x_above = omega (arith, size_parts d.x);
      x_below = omega (arith, size_parts d.x);
      y_above = omega (arith, size_parts d.y);
      y_below = omega (arith, size_parts d.y);
    }

-- ---- lists

pub listed_within : (n inner outer : ℕ) (d : MotionVector) → outer ≤ n → All (Within n) (listed inner outer d)
unfolding listed All
listed_within n inner outer d h = at (between inner outer (distance d)) refl
  where
    at : (t : Bool) → between inner outer (distance d) ≡ t → All (Within n) (cond t (d ∷ []) [])
    at true e = (distance_within n d (omega (arith, between-high inner outer (distance d) e)), tt)
    at false e = tt

pub row_within : (n : ℕ) (r : Row) → r.outer ≤ n → All (Within n) (row_of r)
unfolding row_of
row_within n r h = all_rows (Within n) _ r.count (λ k p. listed_within n r.inner r.outer (right r.from (r.step * k)) h)

pub square_within : (n : ℕ) (q : Square) → q.outer ≤ n → All (Within n) (square_of q)
unfolding square_of
square_within n q h = all_rows (Within n) _ q.count (λ j p. row_within n (square_row q j) h)

pub lattice_within : (n w : ℕ) (corner : Point) (width height : ℕ) → w ≤ n → All (Within n) (lattice w corner width height)
unfolding lattice
lattice_within n w corner width height h =
    all_rows (Within n) _ (places w (above corner.y) height)
    (λ j p. row_within n (lattice_row_at w (lattice_from w corner) (places w (above corner.x) width) j) h)

pub near_within : (n : ℕ) → 8 ≤ n → All (Within n) near_rows
near_within n h = square_within n near_square h

pub dense_within : (n w : ℕ) (y : ℤ) (c : MotionVector) (j : ℕ) → w ≤ n → All (Within n) (dense_row w y c j)
dense_within n w y c j h = row_within n (dense_row_at w y c j) h

-- ---- winners

pub winner_within : (cost : MotionVector → ℕ) (fcode w : ℕ) (b : Block) → w ≤ 1023 → Within 1023 (full_winner cost fcode w b)
unfolding full_rest All
winner_within cost fcode w b h =
    first_all (Within 1023) cost (full_list cost fcode w b) _ (winner_first cost fcode w b) (zero_within 1023, beyond (ltb 1 fcode))
  where
    rows_and_lattice : All (Within 1023) (coarse w b)
    rows_and_lattice =
        all_append (Within 1023) near_rows _ (near_within 1023 (omega arith))
        (lattice_within 1023 w b.corner b.reference.width b.reference.height h)

    dense : (t : Bool) → All (Within 1023) (cond t (grown cost zero_vector (dense_row w (coarse_best cost w b).y) (coarse w b) 7) (coarse w b))
    dense true =
        all_grown (Within 1023) cost zero_vector _ (coarse w b) 7 (zero_within 1023) rows_and_lattice
        (λ c j p. dense_within 1023 w (coarse_best cost w b).y c j h)
    dense false = rows_and_lattice

    beyond : (t : Bool) → All (Within 1023) (cond t (wide_rest cost w b) near_rows)
    beyond true = dense (ltb (cost (coarse_best cost w b)) (cost (near_best cost)))
    beyond false = near_within 1023 (omega arith)

pub four_within : (cost : MotionVector → ℕ) (w : ℕ) (m : BVopSampleMode) (seed : MotionVector) → w ≤ 1023 → Within 1023 (four_winner cost w m seed)
unfolding four_winner four_rest
four_within cost w m seed h = best_all (Within 1023) cost zero_vector _ (zero_within 1023) (square_within 1023 (seed_square w m seed) h)

-- ---- what a search keeps

module _ (cost : MotionVector → ℕ) where
  pub kept_within : (n : ℕ) (l : List MotionVector) (s : Scored) → Within n s.vector → All (Within n) l → Within n (kept_of cost s l).vector
  unfolding consider All
  kept_within n [] s h q = h
  kept_within n (d ∷ l) s h q = at (ltb (cost d) s.cost) (kept_within n l (at_cost cost d) q.0 q.1) (kept_within n l s h q.1)
    where
      at : (t : Bool) → Within n (kept_of cost (at_cost cost d) l).vector → Within n (kept_of cost s l).vector
          → Within n (kept_of cost (cond t (at_cost cost d) s) l).vector
      at true p r = p
      at false p r = r

  pub rows_within : (w : ℕ) (y : ℤ) (s : Scored) (n : ℕ) → w ≤ 1023 → Within 1023 s.vector → Within 1023 (kept_rows cost (dense_row w y) s n).vector
  unfolding kept_rows
  rows_within w y s zero h p = p
  rows_within w y s (suc n) h p =
      kept_within 1023 _ (kept_rows cost (dense_row w y) s n) (rows_within w y s n h p) (dense_within 1023 w y (kept_rows cost (dense_row w y) s n).vector n h)

  pub coarse_within : (w : ℕ) (b : Block) → w ≤ 1023
      → Within 1023 (kept_of cost (found cost near_rows) (lattice_of w b)).vector
  coarse_within w b h =
      kept_within 1023 _ (found cost near_rows) (kept_within 1023 near_rows (at_cost cost zero_vector) (zero_within 1023) (near_within 1023 (omega arith)))
      (lattice_within 1023 w b.corner b.reference.width b.reference.height h)
