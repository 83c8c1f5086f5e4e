-- What a patch shows of the reference: the sum of a block on it is the block's at that displacement. Assumes nothing.
use Prim.Native.Nat.{ℕ, ◌+◌, ◌*◌, ◌≤◌}
use native.Mathlib.Omega.{arith}
use mathlib.Core.List.{List}
use mathlib.Core.Path.{◌≡◌, sym, ap, ◌∙◌}
use lib.IntN.{ℤ, pos, ◌+ℤ◌, +ℤ_assoc}
use lib.ListN.{get_or}
use Rattle.basis.specs.Sums.{abs_diff}
use Rattle.basis.proofs.Sums.{sum_to_cong}
use Rattle.record.specs.declared.MotionVector.{MotionVector}
use Rattle.plane.specs.declared.Point.{Point}
use Rattle.plane.specs.Plane.{Plane, sample_at}
use Rattle.full_search.specs.declared.Lines.{Lines}
use Rattle.full_search.specs.Block.{differences, block_in, copied_sum}
use Rattle.full_search.specs.Places.{right}
use Rattle.full_search.specs.ToldPatch.{lines_sum, Shown, lines_right}

-- a place of a block that is listed row by row
pub listed-place : (samples : List ℕ) (n i : ℕ) → get_or samples (0 + n + i) 0 ≡ get_or samples (n + i) 0
listed-place samples n i = ap (λ (m : ℕ). get_or samples m 0) (first n i)
  where
    first : (n i : ℕ) → 0 + n + i ≡ n + i
    first n i = omega arith

-- the sum on the patch
pub shown_sum : (side : ℕ) (p : Plane) (corner : Point) (d : MotionVector) (source patch : List ℕ) (at : Lines) → Shown side p corner d patch at side
    → lines_sum side source side patch at ≡ copied_sum (block_in side source p corner) d
unfolding lines_sum copied_sum differences
shown_sum side p corner d source patch at s =
    sum_to_cong side _ _ (λ j hj. sum_to_cong side _ _ (λ i hi. ap (abs_diff (get_or source (j * side + i) 0)) (s.same i j hi hj)))

-- k samples to the right
pub farther : (x d : ℤ) (k i : ℕ) → (x +ℤ d) +ℤ pos (k + i) ≡ (x +ℤ (d +ℤ pos k)) +ℤ pos i
farther x d k i =
    sym (+ℤ_assoc (x +ℤ d) (pos k) (pos i)) ∙ ap (λ (z : ℤ). z +ℤ pos i) (+ℤ_assoc x d (pos k))

-- a part that begins k columns farther on
pub shown_right : (side : ℕ) (p : Plane) (corner : Point) (d : MotionVector) (patch : List ℕ) (at : Lines) (columns k n : ℕ) → k + n ≤ columns
    → Shown side p corner d patch at columns → Shown side p corner (right d k) patch (lines_right at k) n
shown_right side p corner d patch at columns k n h s =
    record {
      same =
          λ i j hi hj.
          ap (λ (m : ℕ). get_or patch m 0) (place (j * at.stride) i)
          ∙ s.same (k + i) j (omega arith) hj
          ∙ ap (λ (z : ℤ). sample_at p z ((corner.y +ℤ d.y) +ℤ pos j)) (farther corner.x d.x k i);
    }
  where
    place : (r i : ℕ) → (at.first + k) + r + i ≡ at.first + r + (k + i)
    place r i = omega arith
