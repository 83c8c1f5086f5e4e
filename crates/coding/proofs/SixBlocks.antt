-- Six blocks of a residual: which samples a block is the difference of, and that all six are small where each is. Assumes nothing.
use Prim.Native.Nat.{ℕ, ◌+◌, ◌*◌, ◌/◌, ◌%◌, ◌<◌}
use native.Mathlib.Omega.{arith}
use mathlib.Core.Bool.{true, cond}
use mathlib.Core.List.{List}
use mathlib.Core.Path.{◌≡◌, sym, ap, ap₂, ◌∙◌}
use borrow.Author.Tests.{lt-ltb}
use lib.Dec.{eqb, ltb}
use lib.IntN.{ℤ, pos, negsuc, ◌-ℤ◌}
use lib.ListN.{length, get_or}
use Rattle.basis.specs.Lists.{tabulate, rows}
use Rattle.basis.proofs.Case.{then}
use Rattle.basis.proofs.Lists.{length-tabulate, tabulate_cong, get_or-rows}
use Rattle.refusal.specs.Test.{in_range}
use Rattle.plane.specs.Source.{eight_of}
use Rattle.plane.specs.Samples.{Samples}
use Rattle.coding.specs.Residual.{samples_of, block_residual, ResidualRange}
use Rattle.coding.specs.Told.{difference_at}
use Rattle.coding.proofs.Differences.{eight_at}

pub block_length : (s p : List ℕ) → length (block_residual s p) ≡ 64
block_length s p = length-tabulate 64 (λ k. pos (get_or s k 0) -ℤ pos (get_or p k 0))

-- differences from one place on are a block's
part_is : (s p x y : List ℕ) (stride from : ℕ)
    → ((k : ℕ) → k < 64 → get_or x k 0 ≡ get_or s (from + k / 8 * stride + k % 8) 0)
    → ((k : ℕ) → k < 64 → get_or y k 0 ≡ get_or p (from + k / 8 * stride + k % 8) 0)
    → tabulate 64 (difference_at stride from s p) ≡ block_residual x y
part_is s p x y stride from e f = tabulate_cong 64 _ _ (λ k h. rw (e k h, f k h))

luma_place : (l : List ℕ) (b k : ℕ) → k < 64 → get_or (eight_of l b) k 0 ≡ get_or l (128 * (b / 2) + 8 * (b % 2) + k / 8 * 16 + k % 8) 0
luma_place l b k h =
    eight_at l b k h
    ∙ ap (λ (n : ℕ). get_or l n 0) (let e : (8 * (b / 2) + k / 8) * 16 + (8 * (b % 2) + k % 8) ≡ 128 * (b / 2) + 8 * (b % 2) + k / 8 * 16 + k % 8 = omega arith in e)

module _ (s p : Samples) (b : ℕ) where
  pub luma_block : ltb b 4 ≡ true → block_residual (eight_of s.y b) (eight_of p.y b) ≡ block_residual (samples_of s b) (samples_of p b)
  luma_block e =
      ap₂ block_residual
      (sym (then (ltb b 4) (eight_of s.y b) (cond (eqb b 4) s.cb s.cr) e))
      (sym (then (ltb b 4) (eight_of p.y b) (cond (eqb b 4) p.cb p.cr) e))

  pub luma_part : b < 4 → tabulate 64 (difference_at 16 (128 * (b / 2) + 8 * (b % 2)) s.y p.y) ≡ block_residual (samples_of s b) (samples_of p b)
  luma_part h =
      part_is s.y p.y (eight_of s.y b) (eight_of p.y b) 16 (128 * (b / 2) + 8 * (b % 2)) (luma_place s.y b) (luma_place p.y b)
      ∙ luma_block (lt-ltb b 4 h)

-- block b of a residual
abbrev pub residual_at : Samples → Samples → ℕ → List ℤ
residual_at s p b = block_residual (samples_of s b) (samples_of p b)

pub six_in_range : (r : ℕ → List ℤ) → ((b : ℕ) → length (r b) ≡ 64) → ((b : ℕ) → b < 6 → ResidualRange 64 (r b)) → ResidualRange 384 (rows 6 r)
six_in_range r len small =
    record {
      at = λ i h.
          ap (λ (n : ℕ). in_range (negsuc 254) (pos 255) (get_or (rows 6 r) n (pos 0))) (whole i)
          ∙ ap (in_range (negsuc 254) (pos 255)) (get_or-rows 64 r len 6 (i % 64) (i / 64) (pos 0) (omega arith) (omega arith))
          ∙ (small (i / 64) (omega arith)).at (i % 64) (omega arith);
    }
  where
    whole : (i : ℕ) → i ≡ i / 64 * 64 + i % 64
    whole i = omega arith
