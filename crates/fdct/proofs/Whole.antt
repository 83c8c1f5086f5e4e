-- What the code's arrangement of a block comes to: the definition's coefficients. Assumes nothing.
use Prim.Native.Nat.{ℕ, ◌+◌, ◌*◌, ◌/◌, ◌%◌, ◌<◌}
use native.Mathlib.Omega.{arith}
use mathlib.Core.List.{List}
use mathlib.Core.Path.{◌≡◌, ap, ◌∙◌}
use lib.IntN.{ℤ}
use lib.Ieee.{Float, nan}
use lib.ListN.{get_or}
use Rattle.basis.specs.Lists.{tabulate, raster}
use Rattle.basis.proofs.Lists.{get_or-tabulate, tabulate_cong, get_or-raster}
use Rattle.fdct.specs.Block.{sample, coefficient, coefficients}
use Rattle.fdct.specs.Line.{fdct1d}
use Rattle.fdct.specs.Told.{entries, row_of, column_of, sample_at, across_at, passed_at}
use Rattle.fdct.specs.Rounding.{coefficient_of}
use Rattle.fdct.proofs.Lines.{inside, fdct1d_cong}

-- row u and column j of the columns' pass
passed_at_lem : (l block : List Float) (f : ℕ → Float) (u j : ℕ) → l ≡ raster 8 8 (passed_at (entries block)) → u < 8 → j < 8
    → ((x : ℕ) → x < 8 → column_of (entries block) j x ≡ f x) → entries l (u * 8 + j) ≡ fdct1d f u
passed_at_lem l block f u j e hu hj h =
    ap (λ (z : List Float). get_or z (u * 8 + j) nan) e
    ∙ get_or-raster 8 8 (passed_at (entries block)) j u nan hj hu
    ∙ fdct1d_cong (column_of (entries block) j) f u h

place : (k : ℕ) → k ≡ k / 8 * 8 + k % 8
place k = omega arith

module _
    (r : List ℤ) (block across down : List Float)
    (eb : block ≡ tabulate 64 (sample_at r))
    (ea : across ≡ raster 8 8 (across_at (entries block)))
    (ed : down ≡ raster 8 8 (passed_at (entries across))) where
  across_at_lem : (y u : ℕ) → y < 8 → u < 8 → column_of (entries across) u y ≡ fdct1d (sample r y) u
  across_at_lem y u hy hu =
      ap (λ (z : List Float). get_or z (y * 8 + u) nan) ea
      ∙ get_or-raster 8 8 (across_at (entries block)) u y nan hu hy
      ∙ fdct1d_cong (row_of (entries block) y) (sample r y) u
      (λ x hx. ap (λ (z : List Float). get_or z (y * 8 + x) nan) eb ∙ get_or-tabulate 64 (sample_at r) (y * 8 + x) nan (inside y x hy hx))

  down_at : (v u : ℕ) → v < 8 → u < 8 → entries down (v * 8 + u) ≡ fdct1d (λ y. fdct1d (sample r y) u) v
  down_at v u hv hu = passed_at_lem down across (λ y. fdct1d (sample r y) u) v u ed hv hu (λ y hy. across_at_lem y u hy hu)

  pub arranged : tabulate 64 (λ k. coefficient_of (entries down k)) ≡ coefficients r
  unfolding coefficients
  arranged =
      tabulate_cong 64 (λ k. coefficient_of (entries down k)) (λ k. coefficient r (k / 8) (k % 8))
      (λ k h. ap coefficient_of (ap (entries down) (place k) ∙ down_at (k / 8) (k % 8) (omega arith) (omega arith)))
