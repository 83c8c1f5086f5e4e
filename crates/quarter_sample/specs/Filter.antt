-- The leaves of quarter-sample interpolation (7.6.2.2): reflection of an index, the filter on eight taps, the average of two samples.
use Rattle.std.specs.Prelude.{ℕ, ◌+◌, ◌*◌, ◌-◌, ◌/◌, ◌^◌, min, cond, ltb, ℤ, pos, negsuc, ◌+ℤ◌, ◌-ℤ◌, ◌*ℤ◌}
use Rattle.std.specs.Int.Signed.{quot_z}
use Rattle.basis.specs.Parts.{above}

-- the place in a copied block of `size` columns or rows that index t reads: t below 0 becomes -t - 1, which is n where t is
-- negsuc n, and t at or above size becomes 2 size - 1 - t
unfoldable pub mirror : ℕ → ℤ → ℕ
mirror size (negsuc n) = n
mirror size (pos n) = cond (ltb n size) n (2 * size - 1 - n)

-- a number cut to 0..max
abbrev pub cut : ℕ → ℤ → ℕ
cut max z = min (above z) max

-- the largest sample of bpp bits
abbrev pub largest : ℕ → ℕ
largest bpp = 2 ^ bpp - 1

-- the taps at -3..4, weighted by -8, 24, -48, 160, 160, -48, 24, -8
unfoldable pub weighted : ℕ → ℕ → ℕ → ℕ → ℕ → ℕ → ℕ → ℕ → ℤ
weighted s0 s1 s2 s3 s4 s5 s6 s7 =
    negsuc 7 *ℤ pos s0 +ℤ pos 24 *ℤ pos s1 +ℤ negsuc 47 *ℤ pos s2 +ℤ pos 160 *ℤ pos s3
    +ℤ pos 160 *ℤ pos s4 +ℤ negsuc 47 *ℤ pos s5 +ℤ pos 24 *ℤ pos s6 +ℤ negsuc 7 *ℤ pos s7

-- the weighted sum with 128 - rc added, divided by 256 toward zero, and cut to 0..max
unfoldable pub fir : ℕ → ℕ → ℕ → ℕ → ℕ → ℕ → ℕ → ℕ → ℕ → ℕ → ℕ
fir rc max s0 s1 s2 s3 s4 s5 s6 s7 =
    cut max (quot_z (weighted s0 s1 s2 s3 s4 s5 s6 s7 +ℤ (pos 128 -ℤ pos rc)) (pos 256))

-- the average of two samples, rounded by rc and cut to max
abbrev pub average : ℕ → ℕ → ℕ → ℕ → ℕ
average rc max x y = min ((x + y + 1 - rc) / 2) max
