-- The buffers that the passes fill, and what a filter leaves of one in a long row. Assumes nothing.
use Prim.Native.Nat.{ℕ, zero, suc, ◌+◌, ◌*◌, ◌/◌, ◌<◌, ◌≤◌}
use native.Mathlib.Nat.{zero-add, zero-mul}
use native.Mathlib.Omega.{arith}
use mathlib.Core.Path.{◌≡◌, refl, sym, ap, ap₂, ◌∙◌}
use mathlib.Core.List.{List, ◌++◌}
use lib.IntN.{pos, ◌-ℤ◌}
use lib.ListN.{length, get_or, get_or-append}
use Rattle.basis.specs.Lists.{tabulate, rows, raster}
use Rattle.basis.proofs.Bounds.{row_before, product_le}
use Rattle.basis.proofs.Lists.{length-tabulate, get_or-tabulate, tabulate_cong, tabulate_same, tabulate_join, raster_cong, length-raster, get_or-raster}
use Rattle.quarter_sample.specs.Filter.{mirror}
use Rattle.quarter_sample.specs.Places.{tap}
use Rattle.quarter_sample.specs.ToldPasses.{mix_taps, mix_rows, spaced_at, step, reflected, row_line, column_line}
use Rattle.quarter_sample.specs.ToldPasses.{extended_rows, taken_rows, mirrored_rows, rows_at, columns_at, Filtered}
use Rattle.quarter_sample.proofs.Lines.{taps-step}
use Rattle.quarter_sample.proofs.Reflection.{mirror_mid, mirror-below}

-- a row between three samples of its reflection on either side
pub extended : (row x z : List ℕ) (m : ℕ) → m ≡ 3 + length row + 3 → x ≡ tabulate 3 (λ k. reflected row (0 + k))
    → z ≡ tabulate 3 (λ k. reflected row (3 + length row + k)) → (x ++ row) ++ z ≡ tabulate m (reflected row)
extended row x z m e p q =
    ap₂ (λ (a b : List ℕ). (a ++ row) ++ b) (p ∙ tabulate_cong 3 (λ k. reflected row (0 + k)) (reflected row) (λ k h. ap (reflected row) (zero-add k))) q
    ∙ ap (λ (l : List ℕ). (tabulate 3 (reflected row) ++ l) ++ tabulate 3 (λ k. reflected row (3 + length row + k))) middle
    ∙ ap (λ (l : List ℕ). l ++ tabulate 3 (λ k. reflected row (3 + length row + k))) (sym (tabulate_join 3 (length row) (reflected row)))
    ∙ sym (tabulate_join (3 + length row) 3 (reflected row)) ∙ ap (λ (n : ℕ). tabulate n (reflected row)) (sym e)
  where
    inside : (k : ℕ) → k < length row → k ≡ mirror (length row) (pos (3 + k) -ℤ pos 3)
    inside k h = omega (arith, mirror_mid (length row) (3 + k) (omega arith) (omega arith))

    middle : row ≡ tabulate (length row) (λ k. reflected row (3 + k))
    middle =
        sym (tabulate_same (length row) row 0 refl)
        ∙ tabulate_cong (length row) (λ k. get_or row k 0) (λ k. reflected row (3 + k)) (λ k h. ap (λ (i : ℕ). get_or row i 0) (inside k h))

-- row j of a block with rows of n samples, so extended
pub extended_row : (block row : List ℕ) (n j m : ℕ) → 3 ≤ n → m ≡ n + 6 → row ≡ tabulate n (λ i. get_or block (j * n + i) 0)
    → tabulate m (reflected row) ≡ tabulate (n + 6) (λ u. row_line block n j (pos u -ℤ pos 3))
unfolding row_line
extended_row block row n j m low longer e =
    let at : ℕ → ℕ = λ i. get_or block (j * n + i) 0 in
    ap₂ (λ (k : ℕ) (l : List ℕ). tabulate k (reflected l)) longer e
    ∙ tabulate_cong (n + 6) (reflected (tabulate n at)) (λ u. row_line block n j (pos u -ℤ pos 3))
    (λ u h.
    ap (λ (z : ℕ). get_or (tabulate n at) (mirror z (pos u -ℤ pos 3)) 0) (length-tabulate n at)
    ∙ get_or-tabulate n at (mirror n (pos u -ℤ pos 3)) 0 (mirror-below n u low h))

-- a long row is rows of w
pub by_rows : (w h : ℕ) (f : ℕ → ℕ) (g : ℕ → ℕ → ℕ) → ((i j : ℕ) → i < w → j < h → f (j * w + i) ≡ g i j) → tabulate (h * w) f ≡ raster w h g
unfolding tabulate rows
by_rows w zero f g e = ap (λ (n : ℕ). tabulate n f) (zero-mul w)
by_rows w (suc h) f g e =
    ap (λ (n : ℕ). tabulate n f) next ∙ tabulate_join (h * w) w f
    ∙ ap₂ (λ (x y : List ℕ). x ++ y) (by_rows w h f g (λ i j p q. e i j p (omega arith)))
    (tabulate_cong w (λ k. f (h * w + k)) (λ i. g i h) (λ i p. e i h p (omega arith)))
  where
    next : suc h * w ≡ h * w + w
    next = omega arith

-- eight parts of a buffer, d apart, are the taps of one long row
module _ (rc max fraction n d : ℕ) (l : List ℕ) where
  same_taps : {a0 a1 a2 a3 a4 a5 a6 a7 b0 b1 b2 b3 b4 b5 b6 b7 : ℕ} → a0 ≡ b0 → a1 ≡ b1 → a2 ≡ b2 → a3 ≡ b3 → a4 ≡ b4 → a5 ≡ b5 → a6 ≡ b6 → a7 ≡ b7
      → mix_taps rc max fraction a0 a1 a2 a3 a4 a5 a6 a7 ≡ mix_taps rc max fraction b0 b1 b2 b3 b4 b5 b6 b7
  same_taps e0 e1 e2 e3 e4 e5 e6 e7 = rw (e0, e1, e2, e3, e4, e5, e6, e7) refl

  at_part : (k i : ℕ) (t : List ℕ) → t ≡ tabulate n (λ i. get_or l (k + i) 0) → i < n → get_or t i 0 ≡ get_or l (k + i) 0
  at_part k i t e h = ap (λ (x : List ℕ). get_or x i 0) e ∙ get_or-tabulate n (λ i. get_or l (k + i) 0) i 0 h

  pub spaced : (t0 t1 t2 t3 t4 t5 t6 t7 : List ℕ) → t0 ≡ tabulate n (λ i. get_or l (0 + i) 0) → t1 ≡ tabulate n (λ i. get_or l (d + i) 0)
      → t2 ≡ tabulate n (λ i. get_or l (2 * d + i) 0) → t3 ≡ tabulate n (λ i. get_or l (3 * d + i) 0)
      → t4 ≡ tabulate n (λ i. get_or l (4 * d + i) 0) → t5 ≡ tabulate n (λ i. get_or l (5 * d + i) 0)
      → t6 ≡ tabulate n (λ i. get_or l (6 * d + i) 0) → t7 ≡ tabulate n (λ i. get_or l (7 * d + i) 0)
      → tabulate n (mix_rows rc max fraction t0 t1 t2 t3 t4 t5 t6 t7) ≡ tabulate n (spaced_at rc max fraction l d)
  unfolding spaced_at
  spaced t0 t1 t2 t3 t4 t5 t6 t7 e0 e1 e2 e3 e4 e5 e6 e7 =
      tabulate_cong n (mix_rows rc max fraction t0 t1 t2 t3 t4 t5 t6 t7) (spaced_at rc max fraction l d)
      (λ i h.
      same_taps (at_part 0 i t0 e0 h) (at_part d i t1 e1 h) (at_part (2 * d) i t2 e2 h) (at_part (3 * d) i t3 e3 h)
      (at_part (4 * d) i t4 e4 h) (at_part (5 * d) i t5 e5 h) (at_part (6 * d) i t6 e6 h) (at_part (7 * d) i t7 e7 h))

-- extended rows, filtered in one long row, have a block's rows at the fraction
module _ (rc max fraction w m : ℕ) (block rest : List ℕ) where
  abbrev ext : List ℕ
  ext = extended_rows (w + 1) m block

  at_ext : (i j k at : ℕ) → i < w → j < m → k < 8 → at ≡ j * (w + 1 + 6) + (i + k) → get_or (ext ++ rest) at 0 ≡ tap (row_line block (w + 1) j) i k
  at_ext i j k at p q r e =
      let f : ℕ → ℕ → ℕ = λ u j. row_line block (w + 1) j (pos u -ℤ pos 3) in
      let b : j * (w + 1 + 6) + (w + 1 + 6) ≤ m * (w + 1 + 6) = row_before (w + 1 + 6) q in
      ap (λ (n : ℕ). get_or (ext ++ rest) n 0) e
      ∙ get_or-append ext rest 0 (j * (w + 1 + 6) + (i + k)) (omega (arith, b, length-raster (w + 1 + 6) m f))
      ∙ get_or-raster (w + 1 + 6) m f (i + k) j 0 (omega arith) q

  long_row : (i j : ℕ) → i < w → j < m
      → spaced_at rc max fraction (ext ++ rest) 1 (j * (w + 7) + i) ≡ step rc max fraction (row_line block (w + 1) j) i
  unfolding spaced_at
  long_row i j p q =
      let t = at_ext i j in
      let x : ℕ = j * (w + 7) + i in
      taps-step rc max fraction i (row_line block (w + 1) j)
      (t 0 (0 + x) p q (omega arith) (omega arith)) (t 1 (1 + x) p q (omega arith) (omega arith)) (t 2 (2 * 1 + x) p q (omega arith) (omega arith))
      (t 3 (3 * 1 + x) p q (omega arith) (omega arith)) (t 4 (4 * 1 + x) p q (omega arith) (omega arith)) (t 5 (5 * 1 + x) p q (omega arith) (omega arith))
      (t 6 (6 * 1 + x) p q (omega arith) (omega arith)) (t 7 (7 * 1 + x) p q (omega arith) (omega arith))

  pub filtered : (n long : ℕ) (new all wide : List ℕ) → n ≡ w + 1 → all ≡ new ++ rest → new ≡ extended_rows n m block → m * (w + 7) ≤ long
      → wide ≡ tabulate long (spaced_at rc max fraction all 1) → Filtered w m rc max fraction block wide
  filtered n long new all wide en ea e reaches o i j p q =
      let b : j * (w + 7) + (w + 7) ≤ m * (w + 7) = row_before (w + 7) q in
      let e' : all ≡ ext ++ rest = ea ∙ ap (λ (l : List ℕ). l ++ rest) (e ∙ ap (λ (z : ℕ). extended_rows z m block) en) in
      ap (λ (l : List ℕ). get_or l (j * (w + 7) + i) 0) o
      ∙ get_or-tabulate long (spaced_at rc max fraction all 1) (j * (w + 7) + i) 0 (omega (arith, b))
      ∙ ap (λ (l : List ℕ). spaced_at rc max fraction l 1 (j * (w + 7) + i)) e' ∙ long_row i j p q

-- what follows the rows changes nothing, and they are taken out of the buffer
module _ (w m rc max fraction : ℕ) (block x rest : List ℕ) (fits : m * (w + 7) ≤ length x) (f : Filtered w m rc max fraction block x) where
  pub still_filtered : Filtered w m rc max fraction block (x ++ rest)
  still_filtered i j p q =
      let b : j * (w + 7) + (w + 7) ≤ m * (w + 7) = row_before (w + 7) q in
      get_or-append x rest 0 (j * (w + 7) + i) (omega (arith, b, fits)) ∙ f i j p q

  pub taken : taken_rows (w + 7) w m (x ++ rest) ≡ rows_at w m rc max fraction block
  taken = raster_cong w m (λ i j. get_or (x ++ rest) (j * (w + 7) + i) 0) (λ i j. step rc max fraction (row_line block (w + 1) j) i) still_filtered

-- a long row of a block's rows, rounded up to sixteens, fits its buffer
pub rounded_up : (w rows : ℕ) → w ≤ 16 → rows ≤ 17
    → let n = rows * (w + 7) in (n ≤ (n + 15) / 16 * 16) × ((n + 15) / 16 * 16 ≤ 400)
rounded_up w rows h k =
    let wide : w + 7 ≤ 23 = omega arith in
    let short : rows * (w + 7) ≤ 17 * 23 = product_le k wide in
    (omega arith, omega (arith, short))

-- mirrored rows, filtered in one long row with taps a row apart, are the columns at the fraction
module _ (rc max fraction w h stride : ℕ) (src rest : List ℕ) where
  abbrev middle : List ℕ
  middle = mirrored_rows stride w (h + 1) src

  at_middle : (i j k at : ℕ) → i < w → j < h → k < 8 → at ≡ (j + k) * w + i → get_or (middle ++ rest) at 0 ≡ tap (column_line src stride (h + 1) i) j k
  at_middle i j k at p q r e =
      let f : ℕ → ℕ → ℕ = λ i u. column_line src stride (h + 1) i (pos u -ℤ pos 3) in
      let u : j + k < h + 1 + 6 = omega arith in
      let b : (j + k) * w + w ≤ (h + 1 + 6) * w = row_before w u in
      ap (λ (n : ℕ). get_or (middle ++ rest) n 0) e
      ∙ get_or-append middle rest 0 ((j + k) * w + i) (omega (arith, b, length-raster w (h + 1 + 6) f))
      ∙ get_or-raster w (h + 1 + 6) f i (j + k) 0 p u

  long_column : (i j : ℕ) → i < w → j < h
      → spaced_at rc max fraction (middle ++ rest) w (j * w + i) ≡ step rc max fraction (column_line src stride (h + 1) i) j
  unfolding spaced_at
  long_column i j p q =
      let t = at_middle i j in
      let x : ℕ = j * w + i in
      taps-step rc max fraction j (column_line src stride (h + 1) i)
      (t 0 (0 + x) p q (omega arith) (omega arith)) (t 1 (w + x) p q (omega arith) (omega arith)) (t 2 (2 * w + x) p q (omega arith) (omega arith))
      (t 3 (3 * w + x) p q (omega arith) (omega arith)) (t 4 (4 * w + x) p q (omega arith) (omega arith)) (t 5 (5 * w + x) p q (omega arith) (omega arith))
      (t 6 (6 * w + x) p q (omega arith) (omega arith)) (t 7 (7 * w + x) p q (omega arith) (omega arith))

  pub columned : (s v long : ℕ) (new all out : List ℕ) → s ≡ stride → v ≡ w → all ≡ new ++ rest → new ≡ mirrored_rows s v (h + 1) src → long ≡ h * w
      → out ≡ tabulate long (spaced_at rc max fraction all w) → out ≡ columns_at w h rc max fraction src stride
  columned s v long new all out es ev ea e el o =
      let e' : all ≡ middle ++ rest = ea ∙ ap (λ (l : List ℕ). l ++ rest) (e ∙ ap₂ (λ (y z : ℕ). mirrored_rows y z (h + 1) src) es ev) in
      o ∙ ap₂ (λ (n : ℕ) (l : List ℕ). tabulate n (spaced_at rc max fraction l w)) el e'
      ∙ by_rows w h (spaced_at rc max fraction (middle ++ rest) w) (λ i j. step rc max fraction (column_line src stride (h + 1) i) j) long_column
