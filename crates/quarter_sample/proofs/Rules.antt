-- The sixteen rules are two steps, one an axis; so sources that agree at the taps have the same samples. Assumes nothing.
use Prim.Native.Nat.{ℕ, ◌+◌, ◌*◌, ◌<◌}
use mathlib.Core.Path.{◌≡◌, refl, sym, ◌∙◌}
use lib.IntN.{ℤ, pos, ◌-ℤ◌}
use Rattle.basis.proofs.Small.{four}
use Rattle.quarter_sample.specs.Places.{Source, b, c, d, e, f, k, l, place}
use Rattle.quarter_sample.specs.ToldPasses.{mix, step, step_both}
use Rattle.quarter_sample.proofs.Weights.{average_comm}
use Rattle.quarter_sample.proofs.Lines.{step_cong}

module _ (rc max : ℕ) (s : Source) (x y : ℕ) where
  pub two_steps : (fx fy : ℕ) → fx < 4 → fy < 4 → step_both rc max fx fy s x y ≡ place rc max s (fx + 4 * fy) x y
  unfolding step_both step mix place b c d e f k l
  two_steps fx fy p q =
      four (λ n. step_both rc max n fy s x y ≡ place rc max s (n + 4 * fy) x y)
      (four (λ n. step_both rc max 0 n s x y ≡ place rc max s (0 + 4 * n) x y) refl refl refl refl fy q)
      (four (λ n. step_both rc max 1 n s x y ≡ place rc max s (1 + 4 * n) x y) refl refl refl refl fy q)
      (four (λ n. step_both rc max 2 n s x y ≡ place rc max s (2 + 4 * n) x y) refl refl refl refl fy q)
      (four (λ n. step_both rc max 3 n s x y ≡ place rc max s (3 + 4 * n) x y) refl
      (average_comm rc max (f rc max s x (pos y)) (l rc max s x y)) refl refl fy q)
      fx p

module _ (rc max : ℕ) (s t : Source) (x y : ℕ)
    (same : (i j : ℕ) → i < 8 → j < 8 → s (pos (x + i) -ℤ pos 3) (pos (y + j) -ℤ pos 3) ≡ t (pos (x + i) -ℤ pos 3) (pos (y + j) -ℤ pos 3))
  where
    steps_cong : (fx fy : ℕ) → step_both rc max fx fy s x y ≡ step_both rc max fx fy t x y
    unfolding step_both
    steps_cong fx fy =
        step_cong rc max fy y (λ (v : ℤ). step rc max fx (λ (u : ℤ). s u v) x) (λ (v : ℤ). step rc max fx (λ (u : ℤ). t u v) x)
        (λ j q. step_cong rc max fx x (λ (u : ℤ). s u (pos (y + j) -ℤ pos 3)) (λ (u : ℤ). t u (pos (y + j) -ℤ pos 3)) (λ i p. same i j p q))

    pub place_cong : (fx fy : ℕ) → fx < 4 → fy < 4 → place rc max s (fx + 4 * fy) x y ≡ place rc max t (fx + 4 * fy) x y
    place_cong fx fy p q = sym (two_steps rc max s x y fx fy p q) ∙ steps_cong fx fy ∙ two_steps rc max t x y fx fy p q
