-- Laws of the filter: its value in natural numbers, with the weights as they stand and as eighths, and its division. Assumes nothing.
use Prim.Native.Nat.{ℕ, ◌+◌, ◌-◌, ◌*◌, ◌/◌, ◌≤◌, min}
use native.Mathlib.Omega.{arith}
use mathlib.Core.Path.{◌≡◌, sym, ap, ◌∙◌}
use lib.IntN.{ℤ, pos, negsuc, ◌+ℤ◌, ◌-ℤ◌}
use lib.Signed.{shr_z}
use Rattle.basis.specs.Parts.{above}
use Rattle.basis.proofs.Parts.{Diff, diff_add, diff_pos, diff_neg, diff_above, above-shr, diff_mul, above_quot}
use Rattle.quarter_sample.specs.Filter.{cut, weighted, fir, average}

pub average_comm : (rc max x y : ℕ) → average rc max x y ≡ average rc max y x
average_comm rc max x y = omega arith

module _ (s0 s1 s2 s3 s4 s5 s6 s7 : ℕ) where
  -- what is added, and what is taken away
  abbrev pub up : ℕ
  up = 20 * (s3 + s4) + 3 * (s1 + s6)

  abbrev pub down : ℕ
  down = 6 * (s2 + s5) + (s0 + s7)

  weighted_parts : Diff (weighted s0 s1 s2 s3 s4 s5 s6 s7) (0 * s0 + 24 * s1 + 0 * s2 + 160 * s3 + 160 * s4 + 0 * s5 + 24 * s6 + 0 * s7)
      (8 * s0 + 0 * s1 + 48 * s2 + 0 * s3 + 0 * s4 + 48 * s5 + 0 * s6 + 8 * s7)
  unfolding weighted
  weighted_parts =
      let d1 = diff_add (diff_mul (negsuc 7) s0) (diff_mul (pos 24) s1) in
      let d2 = diff_add d1 (diff_mul (negsuc 47) s2) in
      let d3 = diff_add d2 (diff_mul (pos 160) s3) in
      let d4 = diff_add d3 (diff_mul (pos 160) s4) in
      let d5 = diff_add d4 (diff_mul (negsuc 47) s5) in
      let d6 = diff_add d5 (diff_mul (pos 24) s6) in
      diff_add d6 (diff_mul (negsuc 7) s7)

  rounded : (rc : ℕ) → ℤ
  rounded rc = weighted s0 s1 s2 s3 s4 s5 s6 s7 +ℤ (pos 128 -ℤ pos rc)

  sum_above : (rc : ℕ) → above (rounded rc) ≡ 8 * up + 128 - (8 * down + rc)
  unfolding rounded
  sum_above rc = diff_above (diff_add weighted_parts (diff_add (diff_pos 128) (diff_neg rc))) ∙ omega arith

  module _ (rc max : ℕ) where
    fir-above : fir rc max s0 s1 s2 s3 s4 s5 s6 s7 ≡ min (above (rounded rc) / 256) max
    unfolding fir rounded
    fir-above = ap (λ (n : ℕ). min n max) (above_quot (rounded rc) 256)

    -- For the reader: toward zero or down, the division gives the same after the cut
    pub fir-down : fir rc max s0 s1 s2 s3 s4 s5 s6 s7 ≡ cut max (shr_z (weighted s0 s1 s2 s3 s4 s5 s6 s7 +ℤ (pos 128 -ℤ pos rc)) 256)
    unfolding rounded
    fir-down = fir-above ∙ ap (λ (n : ℕ). min n max) (sym (above-shr (rounded rc) 256))

    -- the weights as eighths
    pub fir_eighths : rc ≤ 1 → fir rc max s0 s1 s2 s3 s4 s5 s6 s7 ≡ min ((up + (16 - rc) - down) / 32) max
    fir_eighths h = fir-above ∙ ap (λ (n : ℕ). min (n / 256) max) (sum_above rc) ∙ ap (λ (n : ℕ). min n max) (eighths up down rc h)
      where
        eighths : (u d rc : ℕ) → rc ≤ 1 → (8 * u + 128 - (8 * d + rc)) / 256 ≡ (u + (16 - rc) - d) / 32
        eighths u d rc h = omega arith
