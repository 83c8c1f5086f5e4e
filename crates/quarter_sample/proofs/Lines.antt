-- Laws of a line of samples: eight taps give its sample at a fraction, so lines that agree at the taps have the same. Assumes nothing.
use Prim.Native.Nat.{ℕ, ◌+◌, ◌<◌}
use native.Mathlib.Omega.{arith}
use mathlib.Core.Path.{◌≡◌, refl, sym, ap, ◌∙◌}
use mathlib.Core.List.{List}
use lib.IntN.{ℤ, pos}
use lib.ListN.{get_or}
use Rattle.basis.specs.Lists.{tabulate}
use Rattle.basis.proofs.Lists.{tabulate_cong}
use Rattle.basis.proofs.Parts.{difference_high}
use Rattle.quarter_sample.specs.Places.{tap, halfway}
use Rattle.quarter_sample.specs.ToldPasses.{mix, mix_taps, step, fir_rows, near_rows, mix_rows}
use Rattle.quarter_sample.proofs.Weights.{average_comm}

-- taps 3 and 4 are the samples at i and i + 1
tap3 : (s : ℤ → ℕ) (i : ℕ) → tap s i 3 ≡ s (pos i)
tap3 s i = ap s (difference_high (i + 3) 3 (omega arith) ∙ ap pos (omega arith))

tap4 : (s : ℤ → ℕ) (i : ℕ) → tap s i 4 ≡ s (pos (i + 1))
tap4 s i = ap s (difference_high (i + 4) 3 (omega arith) ∙ ap pos (omega arith))

module _ (rc max fraction i : ℕ) where
  pub taps-step : (s : ℤ → ℕ) {a0 a1 a2 a3 a4 a5 a6 a7 : ℕ} → a0 ≡ tap s i 0 → a1 ≡ tap s i 1 → a2 ≡ tap s i 2 → a3 ≡ tap s i 3
      → a4 ≡ tap s i 4 → a5 ≡ tap s i 5 → a6 ≡ tap s i 6 → a7 ≡ tap s i 7 → mix_taps rc max fraction a0 a1 a2 a3 a4 a5 a6 a7 ≡ step rc max fraction s i
  unfolding mix_taps step halfway
  taps-step s e0 e1 e2 e3 e4 e5 e6 e7 =
      rw (e0, e1, e2, e3, e4, e5, e6, e7)
      (ap (λ (n : ℕ). mix rc max fraction n (halfway rc max s i) (tap s i 4)) (tap3 s i)
      ∙ ap (mix rc max fraction (s (pos i)) (halfway rc max s i)) (tap4 s i))

  pub step_cong : (s t : ℤ → ℕ) → ((k : ℕ) → k < 8 → tap s i k ≡ tap t i k) → step rc max fraction s i ≡ step rc max fraction t i
  step_cong s t e =
      sym (taps-step s refl refl refl refl refl refl refl refl)
      ∙ taps-step t (e 0 (omega arith)) (e 1 (omega arith)) (e 2 (omega arith)) (e 3 (omega arith))
      (e 4 (omega arith)) (e 5 (omega arith)) (e 6 (omega arith)) (e 7 (omega arith))

-- eight rows of taps at each fraction between the samples
module _ (rc max n : ℕ) (t0 t1 t2 t3 t4 t5 t6 t7 : List ℕ) {out : List ℕ} {fraction : ℕ} where
  pub at_quarter : fraction ≡ 1 → out ≡ tabulate n (near_rows rc max t3 t0 t1 t2 t3 t4 t5 t6 t7)
      → out ≡ tabulate n (mix_rows rc max fraction t0 t1 t2 t3 t4 t5 t6 t7)
  unfolding mix_taps mix
  at_quarter e o = o ∙ ap (λ (f : ℕ). tabulate n (mix_rows rc max f t0 t1 t2 t3 t4 t5 t6 t7)) (sym e)

  pub at_half : fraction ≡ 2 → out ≡ tabulate n (fir_rows rc max t0 t1 t2 t3 t4 t5 t6 t7)
      → out ≡ tabulate n (mix_rows rc max fraction t0 t1 t2 t3 t4 t5 t6 t7)
  unfolding mix_taps mix
  at_half e o = o ∙ ap (λ (f : ℕ). tabulate n (mix_rows rc max f t0 t1 t2 t3 t4 t5 t6 t7)) (sym e)

  pub at_three_quarters : fraction ≡ 3 → out ≡ tabulate n (near_rows rc max t4 t0 t1 t2 t3 t4 t5 t6 t7)
      → out ≡ tabulate n (mix_rows rc max fraction t0 t1 t2 t3 t4 t5 t6 t7)
  unfolding mix_taps mix
  at_three_quarters e o =
      o
      ∙ tabulate_cong n (near_rows rc max t4 t0 t1 t2 t3 t4 t5 t6 t7) (mix_rows rc max 3 t0 t1 t2 t3 t4 t5 t6 t7)
      (λ i h. average_comm rc max (get_or t4 i 0) (fir_rows rc max t0 t1 t2 t3 t4 t5 t6 t7 i))
      ∙ ap (λ (f : ℕ). tabulate n (mix_rows rc max f t0 t1 t2 t3 t4 t5 t6 t7)) (sym e)
