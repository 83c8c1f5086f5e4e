-- The lattice's places: how many there are at most, how far they go, and the strip that a row of them takes. Assumes nothing.
use Prim.Native.Nat.{ℕ, ◌+◌, ◌*◌, ◌≤◌}
use native.Mathlib.Omega.{arith}
use mathlib.Core.Path.{◌≡◌, ap, ap₂, ◌∙◌}
use lib.IntN.{ℤ, pos, ◌+ℤ◌, +ℤ_assoc}
use Rattle.basis.specs.Lists.{rows}
use Rattle.basis.specs.Parts.{above}
use Rattle.basis.proofs.Parts.{above-neg, below-neg}
use Rattle.record.specs.declared.MotionVector.{MotionVector}
use Rattle.plane.specs.declared.Point.{Point}
use Rattle.full_search.specs.declared.Row.{Row}
use Rattle.full_search.specs.declared.Scored.{Scored}
use Rattle.full_search.specs.Places.{down, row_of, back, places, lattice_from, lattice_row, lattice}
use Rattle.full_search.specs.Told.{Within}
use Rattle.full_search.specs.ToldKept.{kept_of, row_below, rows_below}
use Rattle.full_search.proofs.Kept.{pieces_on}

pub places_most : (w m size n : ℕ) → w ≤ 1023 → n ≡ places w m size → n ≤ 512
places_most w m size n h e = omega (arith, e)

-- the first place is inside the window
pub first_within : (w : ℕ) (corner : Point) → w ≤ 1023 → Within 1023 (lattice_from w corner)
first_within w corner h =
    record {
      x_above = omega (arith, above-neg (pos (back w (above corner.x))));
      x_below = omega (arith, below-neg (pos (back w (above corner.x))));
      y_above = omega (arith, above-neg (pos (back w (above corner.y))));
      y_below = omega (arith, below-neg (pos (back w (above corner.y))));
    }

-- rows that are four samples apart, from one of them on
down-down : (d : MotionVector) (a b c : ℕ) → a + b ≡ c → down (down d a) b ≡ down d c
down-down d a b c e =
    ap (λ (y : ℤ). record { x = d.x; y = y }) (+ℤ_assoc d.y (pos a) (pos b) ∙ ap (λ (n : ℕ). d.y +ℤ pos n) e)

pub row_farther : (r : Row) (j i : ℕ) → row_of (row_below (row_below r (4 * j)) (4 * i)) ≡ row_of (row_below r (4 * (j + i)))
row_farther r j i =
    ap (λ (d : MotionVector). row_of (record { from = d; step = r.step; count = r.count; inner = r.inner; outer = r.outer }))
    (down-down r.from (4 * j) (4 * i) (4 * (j + i)) (fours j i))
  where
    fours : (j i : ℕ) → 4 * j + 4 * i ≡ 4 * (j + i)
    fours j i = omega arith

-- a band more
pub band_more : (cost : MotionVector → ℕ) (s b c : Scored) (r : Row) (j n : ℕ) → b ≡ kept_of cost s (rows_below r j)
    → c ≡ kept_of cost b (rows_below (row_below r (4 * j)) n) → c ≡ kept_of cost s (rows_below r (j + n))
band_more cost s b c r j n e f =
    f
    ∙ ap (λ (b : Scored). kept_of cost b (rows_below (row_below r (4 * j)) n)) e
    ∙ pieces_on cost s (λ i. row_of (row_below r (4 * i))) (λ i. row_of (row_below (row_below r (4 * j)) (4 * i))) j n (λ i h. row_farther r j i)

-- what all its rows keep, in the code's own terms
pub lattice-kept : (cost : MotionVector → ℕ) (s b : Scored) (w : ℕ) (corner : Point) (width height : ℕ) (from : MotionVector) (count lines j : ℕ)
    → b ≡ kept_of cost s (rows j (lattice_row w from count)) → j ≡ lines → from ≡ lattice_from w corner → count ≡ places w (above corner.x) width
    → lines ≡ places w (above corner.y) height → b ≡ kept_of cost s (lattice w corner width height)
unfolding lattice
lattice-kept cost s b w corner width height from count lines j e k f c l =
    e
    ∙ ap (λ (n : ℕ). kept_of cost s (rows n (lattice_row w from count))) (k ∙ l)
    ∙ ap₂ (λ (d : MotionVector) (n : ℕ). kept_of cost s (rows (places w (above corner.y) height) (lattice_row w d n))) f c
