-- Whole blocks: the source that a block holds is the mirrored copy, and what the passes leave is the two steps over it.
-- Assumes nothing.
use Prim.Native.Nat.{ℕ, ◌+◌, ◌*◌, ◌≤◌, ◌<◌}
use native.Mathlib.Omega.{arith}
use mathlib.Core.Path.{◌≡◌, sym, ap, ap₂, ◌∙◌}
use mathlib.Core.List.{List, ◌++◌}
use lib.IntN.{ℤ, pos, ◌-ℤ◌}
use lib.ListN.{get_or, get_or-append}
use Rattle.basis.specs.Lists.{raster}
use Rattle.basis.proofs.Bounds.{row_before}
use Rattle.basis.proofs.Lists.{raster_cong, length-raster, get_or-raster}
use Rattle.quarter_sample.specs.Filter.{mirror}
use Rattle.quarter_sample.specs.Places.{Source, place, mirrored}
use Rattle.quarter_sample.specs.ToldPasses.{mix, step, step_both, row_line, column_line, buffer_source, Filtered}
use Rattle.quarter_sample.proofs.Lines.{step_cong}
use Rattle.quarter_sample.proofs.Reflection.{mirror_inside, mirror-below}
use Rattle.quarter_sample.proofs.Rules.{two_steps, place_cong}

-- a block that begins with what was copied is the mirrored copy, at every place, for any sides from 2
pub buffer_copy : (rc max w h fx fy : ℕ) (r : ℕ → ℕ → ℕ) (block rest : List ℕ) → 2 ≤ w → 2 ≤ h → fx < 4 → fy < 4
    → block ≡ raster (w + 1) (h + 1) r ++ rest
    → raster w h (place rc max (buffer_source block (w + 1) (h + 1)) (fx + 4 * fy))
    ≡ raster w h (place rc max (mirrored r (w + 1) (h + 1)) (fx + 4 * fy))
unfolding buffer_source mirrored
buffer_copy rc max w h fx fy r block rest a b p q e =
    raster_cong w h (place rc max (buffer_source block (w + 1) (h + 1)) (fx + 4 * fy)) (place rc max (mirrored r (w + 1) (h + 1)) (fx + 4 * fy))
    (λ i j f g.
    place_cong rc max (buffer_source block (w + 1) (h + 1)) (mirrored r (w + 1) (h + 1)) i j
    (λ u v c d.
    let x : ℕ = mirror (w + 1) (pos (i + u) -ℤ pos 3) in
    let y : ℕ = mirror (h + 1) (pos (j + v) -ℤ pos 3) in
    let px : x < w + 1 = mirror-below (w + 1) (i + u) (omega arith) (omega arith) in
    let py : y < h + 1 = mirror-below (h + 1) (j + v) (omega arith) (omega arith) in
    let within : y * (w + 1) + (w + 1) ≤ (h + 1) * (w + 1) = row_before (w + 1) py in
    ap (λ (l : List ℕ). get_or l (y * (w + 1) + x) 0) e
    ∙ get_or-append (raster (w + 1) (h + 1) r) rest 0 (y * (w + 1) + x) (omega (arith, px, within, length-raster (w + 1) (h + 1) r))
    ∙ get_or-raster (w + 1) (h + 1) r x y 0 px py)
    fx fy p q)

-- two steps are the place of their fractions
pub place_by_steps : (rc max w h fx fy : ℕ) (s : Source) → fx < 4 → fy < 4 → raster w h (step_both rc max fx fy s) ≡ raster w h (place rc max s (fx + 4 * fy))
place_by_steps rc max w h fx fy s p q =
    raster_cong w h (step_both rc max fx fy s) (place rc max s (fx + 4 * fy)) (λ i j a b. two_steps rc max s i j fx fy p q)

module _ (rc max w h : ℕ) (block : List ℕ) where
  -- the whole samples
  pub whole : raster w h (λ (i j : ℕ). get_or block (j * (w + 1) + i) 0) ≡ raster w h (step_both rc max 0 0 (buffer_source block (w + 1) (h + 1)))
  unfolding step_both step mix buffer_source mirrored
  whole =
      raster_cong w h (λ (i j : ℕ). get_or block (j * (w + 1) + i) 0) (step_both rc max 0 0 (buffer_source block (w + 1) (h + 1)))
      (λ i j p q. sym (ap₂ (λ (a b : ℕ). get_or block (b * (w + 1) + a) 0) (mirror_inside (w + 1) i (omega arith)) (mirror_inside (h + 1) j (omega arith))))

  -- the rows alone, and the columns alone
  pub across : (fx : ℕ) → raster w h (λ (i j : ℕ). step rc max fx (row_line block (w + 1) j) i)
      ≡ raster w h (step_both rc max fx 0 (buffer_source block (w + 1) (h + 1)))
  unfolding step_both step mix row_line buffer_source mirrored
  across fx =
      raster_cong w h (λ (i j : ℕ). step rc max fx (row_line block (w + 1) j) i) (step_both rc max fx 0 (buffer_source block (w + 1) (h + 1)))
      (λ i j p q. sym (ap (λ (r : ℕ). step rc max fx (row_line block (w + 1) r) i) (mirror_inside (h + 1) j (omega arith))))

  pub down : (fy : ℕ) → raster w h (λ (i j : ℕ). step rc max fy (column_line block (w + 1) (h + 1) i) j)
      ≡ raster w h (step_both rc max 0 fy (buffer_source block (w + 1) (h + 1)))
  unfolding step_both step mix column_line buffer_source mirrored
  down fy =
      raster_cong w h (λ (i j : ℕ). step rc max fy (column_line block (w + 1) (h + 1) i) j) (step_both rc max 0 fy (buffer_source block (w + 1) (h + 1)))
      (λ i j p q. sym (ap (λ (n : ℕ). step rc max fy (column_line block (w + 1) (h + 1) n) j) (mirror_inside (w + 1) i (omega arith))))

  -- the columns of the filtered rows
  pub both : (fx fy : ℕ) (wide : List ℕ) → 2 ≤ h → Filtered w (h + 1) rc max fx block wide
      → raster w h (λ (i j : ℕ). step rc max fy (column_line wide (w + 7) (h + 1) i) j) ≡ raster w h (step_both rc max fx fy (buffer_source block (w + 1) (h + 1)))
  unfolding step_both column_line row_line buffer_source mirrored
  both fx fy wide t filtered =
      raster_cong w h (λ (i j : ℕ). step rc max fy (column_line wide (w + 7) (h + 1) i) j) (step_both rc max fx fy (buffer_source block (w + 1) (h + 1)))
      (λ i j p q.
      step_cong rc max fy j (column_line wide (w + 7) (h + 1) i) (λ (v : ℤ). step rc max fx (λ (u : ℤ). buffer_source block (w + 1) (h + 1) u v) i)
      (λ k r. filtered i (mirror (h + 1) (pos (j + k) -ℤ pos 3)) p (mirror-below (h + 1) (j + k) (omega arith) (omega arith))))
