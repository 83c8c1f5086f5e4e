-- Four 8 x 8 blocks, woven part by part, are the macroblock. Assumes nothing.
use Prim.Native.Nat.{ℕ, ◌+◌, ◌*◌, ◌/◌, ◌%◌, ◌<◌}
use native.Mathlib.Omega.{arith}
use mathlib.Core.Path.{◌≡◌, sym, ap, ◌∙◌}
use mathlib.Core.List.{List}
use lib.ListN.{get_or}
use lib.Seq.{ext_get_or}
use Rattle.basis.specs.Lists.{rows, raster}
use Rattle.basis.proofs.Lists.{length-raster, get_or-raster, get_or-rows}
use Rattle.prediction.specs.ToldFour.{part_at}

module _ (f : ℕ → ℕ → ℕ → ℕ) where
  -- the blocks, one after the other
  abbrev blocks : List ℕ
  blocks = rows 4 (λ k. raster 8 8 (f k))

  -- sample i of part n is at column i and row n / 2 % 8 of block n % 2 + 2 (n / 16)
  from_block : (i n : ℕ) → i < 8 → n < 32 → get_or blocks (part_at n + i) 0 ≡ f (n % 2 + 2 * (n / 16)) i (n / 2 % 8)
  from_block i n p q =
      ap (λ (m : ℕ). get_or blocks m 0) (place (n % 2 + 2 * (n / 16)) (n / 2 % 8))
      ∙ get_or-rows 64 (λ k. raster 8 8 (f k)) (λ k. length-raster 8 8 (f k)) 4 (n / 2 % 8 * 8 + i) (n % 2 + 2 * (n / 16)) 0
      (omega arith) (omega arith)
      ∙ get_or-raster 8 8 (f (n % 2 + 2 * (n / 16))) i (n / 2 % 8) 0 p (omega arith)
    where
      place : (b r : ℕ) → 64 * b + 8 * r + i ≡ b * 64 + (r * 8 + i)
      place b r = omega arith

  abbrev part : ℕ → ℕ → ℕ
  part i n = get_or blocks (part_at n + i) 0

  abbrev whole : ℕ → ℕ → ℕ
  whole i j = f (i / 8 + 2 * (j / 8)) (i % 8) (j % 8)

  -- sample m of both
  same : (m : ℕ) → m < 256 → get_or (raster 8 32 part) m 0 ≡ get_or (raster 16 16 whole) m 0
  same m h =
      ap (λ (k : ℕ). get_or (raster 8 32 part) k 0) (split m)
      ∙ get_or-raster 8 32 part (m % 8) (m / 8) 0 (omega arith) (omega arith)
      ∙ from_block (m % 8) (m / 8) (omega arith) (omega arith)
      ∙ (λ i. f (block i) (column i) (row i))
      ∙ sym (get_or-raster 16 16 whole (m % 16) (m / 16) 0 (omega arith) (omega arith))
      ∙ ap (λ (k : ℕ). get_or (raster 16 16 whole) k 0) (sym (split16 m))
    where
      split : (m : ℕ) → m ≡ m / 8 * 8 + m % 8
      split m = omega arith

      split16 : (m : ℕ) → m ≡ m / 16 * 16 + m % 16
      split16 m = omega arith

      block : m / 8 % 2 + 2 * (m / 8 / 16) ≡ m % 16 / 8 + 2 * (m / 16 / 8)
      block = omega arith

      column : m % 8 ≡ m % 16 % 8
      column = omega arith

      row : m / 8 / 2 % 8 ≡ m / 16 % 8
      row = omega arith

  pub woven : raster 8 32 (λ i n. get_or (rows 4 (λ k. raster 8 8 (f k))) (part_at n + i) 0)
      ≡ raster 16 16 (λ i j. f (i / 8 + 2 * (j / 8)) (i % 8) (j % 8))
  woven =
      ext_get_or 0 (raster 8 32 part) (raster 16 16 whole) (length-raster 8 32 part ∙ sym (length-raster 16 16 whole))
      (λ m h. same m (omega (arith, length-raster 8 32 part)))
