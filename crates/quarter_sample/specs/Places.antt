-- The sixteen sub-sample places (7.6.2.2, as `interpolate_quarter_pixel_src` lists them), over any source of samples.
use Rattle.std.specs.Prelude.{ℕ, ◌+◌, cond, eqb, ℤ, pos, ◌-ℤ◌}
use Rattle.quarter_sample.specs.Filter.{mirror, fir, average}

-- the sample at a column and a row
abbrev pub Source : Type 0
Source = ℤ → ℤ → ℕ

-- a copied block of w columns and h rows as a source: outside it the indices are reflected
unfoldable pub mirrored : (ℕ → ℕ → ℕ) → ℕ → ℕ → Source
mirrored r w h x y = r (mirror w x) (mirror h y)

-- tap k, of 0..7, between the places i and i + 1 of a line of samples: the sample at i + k - 3
abbrev pub tap : (ℤ → ℕ) → ℕ → ℕ → ℕ
tap s i k = s (pos (i + k) -ℤ pos 3)

-- half a sample after place i of a line
unfoldable pub halfway : ℕ → ℕ → (ℤ → ℕ) → ℕ → ℕ
halfway rc max s i = fir rc max (tap s i 0) (tap s i 1) (tap s i 2) (tap s i 3) (tap s i 4) (tap s i 5) (tap s i 6) (tap s i 7)

module _ (rc max : ℕ) (s : Source) where
  -- on row y: half a sample to the right of column x, a quarter, and three quarters
  unfoldable pub b : ℕ → ℤ → ℕ
  b x y = halfway rc max (λ (t : ℤ). s t y) x

  unfoldable pub e : ℕ → ℤ → ℕ
  e x y = average rc max (s (pos x) y) (b x y)

  unfoldable pub f : ℕ → ℤ → ℕ
  f x y = average rc max (b x y) (s (pos (x + 1)) y)

  -- half a sample below row y: in the column, and in the columns of b, e and f
  unfoldable pub c : ℕ → ℕ → ℕ
  c x y = halfway rc max (s (pos x)) y

  unfoldable pub d : ℕ → ℕ → ℕ
  d x y = halfway rc max (b x) y

  unfoldable pub k : ℕ → ℕ → ℕ
  k x y = halfway rc max (e x) y

  unfoldable pub l : ℕ → ℕ → ℕ
  l x y = halfway rc max (f x) y

  -- place n = fx + 4 fy from column x and row y: the whole sample, e, b, f; g, h, i, j; c, k, d, l; m, n, o, p
  unfoldable pub place : ℕ → ℕ → ℕ → ℕ
  place n x y =
      cond (eqb n 0) (s (pos x) (pos y))
      (cond (eqb n 1) (e x (pos y))
      (cond (eqb n 2) (b x (pos y))
      (cond (eqb n 3) (f x (pos y))
      (cond (eqb n 4) (average rc max (s (pos x) (pos y)) (c x y))
      (cond (eqb n 5) (average rc max (e x (pos y)) (k x y))
      (cond (eqb n 6) (average rc max (b x (pos y)) (d x y))
      (cond (eqb n 7) (average rc max (l x y) (f x (pos y)))
      (cond (eqb n 8) (c x y)
      (cond (eqb n 9) (k x y)
      (cond (eqb n 10) (d x y)
      (cond (eqb n 11) (l x y)
      (cond (eqb n 12) (average rc max (c x y) (s (pos x) (pos (y + 1))))
      (cond (eqb n 13) (average rc max (k x y) (e x (pos (y + 1))))
      (cond (eqb n 14) (average rc max (d x y) (b x (pos (y + 1))))
      (average rc max (l x y) (f x (pos (y + 1))))))))))))))))))
