-- The grids of a patch: when they are not refused, and that those of a patch around a whole place are the eight blocks half a sample away.
-- Assumes nothing.
use Prim.Native.Nat.{ℕ, zero, suc, ◌+◌, ◌-◌, ◌*◌, ◌/◌, ◌%◌, ◌<◌, ◌≤◌}
use native.Mathlib.Nat.{add-mul, mul-le-mul_right}
use native.Mathlib.Omega.{arith}
use mathlib.Core.Bool.{Bool, true, false, not, ◌&&◌}
use mathlib.Core.List.{List}
use mathlib.Core.Path.{◌≡◌, refl, sym, ap, ap₂, ◌∙◌}
use borrow.Author.Tests.{ltb-true, eqb-true, lt-ltb, eq-eqb}
use lib.Dec.{ltb, eqb}
use lib.IntN.{ℤ, pos, negsuc, ◌+ℤ◌, ◌-ℤ◌, +ℤ_assoc, +ℤ_idr}
use lib.ListN.{length, get_or, take, drop}
use lib.Seq.{get_or-take, get_or-drop}
use lib.Signed.{shr_z}
use Rattle.basis.specs.Division.{rest_z}
use Rattle.basis.specs.Lists.{tabulate, raster}
use Rattle.basis.specs.Parts.{above, below}
use Rattle.basis.proofs.Case.{both}
use Rattle.basis.proofs.Lists.{tabulate_cong, length-tabulate, get_or-tabulate, get_or-raster}
use Rattle.basis.proofs.Parts.{sides, ext, above-add, below-add, above-shr, below-shr}
use Rattle.refusal.specs.declared.Refusal.TheVariants.{Length}
use Rattle.std.specs.Prelude.{Ok}
use Rattle.refusal.proofs.Replies.{unless-done, passed}
use Rattle.refusal.proofs.Tests.{and_left, and_right}
use Rattle.record.specs.declared.MotionVector.{MotionVector}
use Rattle.plane.specs.declared.Point.{Point}
use Rattle.plane.specs.Plane.{Plane, sample_at, copied, copied_block}
use Rattle.half_sample.specs.declared.HalfPel.{HalfPel}
use Rattle.half_sample.specs.Average.{average2_of, average4_of, pixel_of}
use Rattle.half_sample.specs.Block.{sample_from, half_sample}
use Rattle.half_sample.specs.Split.{split_half}
use Rattle.half_sample.specs.ToldRows.{below_of, between_four}
use Rattle.half_sample.specs.Ring.{ring_corner, off_whole, read_from, ring_at, ring_grid, ring_reply}

module _ (bytes stride right below between : ℕ) where
  abbrev same : Bool
  same = eqb below right && eqb between right

  pub ring_is : ring_reply bytes stride right below between ≡ Ok tt → (right + stride < bytes) × (below ≡ right) × (between ≡ right)
  unfolding ring_reply
  ring_is e =
      let k = unless-done (ltb right (bytes - stride) && same) Length (Ok tt) e in
      let h = ltb-true right (bytes - stride) (and_left (ltb right (bytes - stride)) same k) in
      let s = and_right (ltb right (bytes - stride)) same k in (
        omega (arith, h),
        eqb-true below right (and_left (eqb below right) (eqb between right) s),
        eqb-true between right (and_right (eqb below right) (eqb between right) s),
      )

  pub ring-done : right + stride < bytes → below ≡ right → between ≡ right → ring_reply bytes stride right below between ≡ Ok tt
  unfolding ring_reply
  ring-done h e f =
      passed (ltb right (bytes - stride) && same) Length
      (both (lt-ltb right (bytes - stride) (omega arith)) (both (eq-eqb below right e) (eq-eqb between right f))) refl

-- ---- a grid whose lower samples are read from the line's second row on

module _ (patch : List ℕ) (stride rounding m n : ℕ) (k : m ≡ n) (h : n + stride < length patch) where
  abbrev rc : ℕ
  rc = rounding % 2

  abbrev pub second : List ℕ
  second = take (length patch - stride) (drop stride patch)

  one_down : (i j : ℕ) → i + stride ≡ j → i ≤ n → get_or second i 0 ≡ get_or patch j 0
  one_down i j e l =
      let place : stride + i ≡ j = omega arith in
      get_or-take (length patch - stride) (drop stride patch) i 0 (omega arith) ∙ get_or-drop stride patch i 0 ∙ ap (λ (a : ℕ). get_or patch a 0) place

  pub below_grid : tabulate m (below_of patch second rc) ≡ ring_grid patch stride false true rounding n
  unfolding ring_grid
  below_grid =
      tabulate_cong m (below_of patch second rc) (ring_at patch stride false true rc)
      (λ i p. ap (λ (a : ℕ). average2_of (get_or patch i 0) a rc) (one_down i (i + stride) refl (omega arith)))
      ∙ ap (λ (a : ℕ). tabulate a (ring_at patch stride false true rc)) k

  pub between_grid : tabulate m (between_four patch second rc) ≡ ring_grid patch stride true true rounding n
  unfolding ring_grid
  between_grid =
      tabulate_cong m (between_four patch second rc) (ring_at patch stride true true rc)
      (λ i p.
      ap₂ (λ (a b : ℕ). average4_of (get_or patch i 0) (get_or patch (i + 1) 0) a b rc) (one_down i (i + stride) refl (omega arith))
      (one_down (i + 1) (i + stride + 1) (omega arith) (omega arith)))
      ∙ ap (λ (a : ℕ). tabulate a (ring_at patch stride true true rc)) k

-- ---- a grid of a patch that was listed row by row

module _ (w h : ℕ) (f : ℕ → ℕ → ℕ) where
  -- column i and row j, and its neighbours
  here : (i j : ℕ) → i < w → j < h → get_or (raster w h f) (j * w + i) 0 ≡ f i j
  here i j = get_or-raster w h f i j 0

  right : (i j : ℕ) → i + 1 < w → j < h → get_or (raster w h f) (j * w + i + 1) 0 ≡ f (i + 1) j
  right i j a b =
      let e : j * w + i + 1 ≡ j * w + (i + 1) = omega arith in
      ap (λ (k : ℕ). get_or (raster w h f) k 0) e ∙ here (i + 1) j a b

  low : (i j : ℕ) → i < w → j + 1 < h → get_or (raster w h f) (j * w + i + w) 0 ≡ f i (j + 1)
  low i j a b =
      let e : j * w + i + w ≡ (j + 1) * w + i = omega (arith, add-mul j 1 w) in
      ap (λ (k : ℕ). get_or (raster w h f) k 0) e ∙ here i (j + 1) a b

  last : (i j : ℕ) → i + 1 < w → j + 1 < h → get_or (raster w h f) (j * w + i + w + 1) 0 ≡ f (i + 1) (j + 1)
  last i j a b =
      let e : j * w + i + w + 1 ≡ (j + 1) * w + (i + 1) = omega (arith, add-mul j 1 w) in
      ap (λ (k : ℕ). get_or (raster w h f) k 0) e ∙ here (i + 1) (j + 1) a b

  -- its entry there lies between the four
  pub grid_at : (hx hy : Bool) (rounding n i j : ℕ) → i + 1 < w → j + 1 < h → j * w + i < n
      → get_or (ring_grid (raster w h f) w hx hy rounding n) (j * w + i) 0
      ≡ pixel_of (f i j) (f (i + 1) j) (f i (j + 1)) (f (i + 1) (j + 1)) hx hy (rounding % 2)
  unfolding ring_grid
  grid_at hx hy rounding n i j a b c =
      let p : i < w = omega arith in
      let q : j < h = omega arith in
      get_or-tabulate n (ring_at (raster w h f) w hx hy (rounding % 2)) (j * w + i) 0 c
      ∙ ap₂ (λ (s t : ℕ). pixel_of s t (get_or (raster w h f) (j * w + i + w) 0) (get_or (raster w h f) (j * w + i + w + 1) 0) hx hy (rounding % 2))
      (here i j p q) (right i j a q)
      ∙ ap₂ (λ (s t : ℕ). pixel_of (f i j) (f (i + 1) j) s t hx hy (rounding % 2)) (low i j p b) (last i j a b)

-- ---- places

-- what is left by 2
rest_parts : (z : ℤ) → rest_z z 2 ≡ (above z + below z) % 2
rest_parts (pos n) = omega arith
rest_parts (negsuc n) = omega arith

back-half : (a b : ℕ) → (a + b) % 2 ≡ 0 → a - b ≡ a → ((a + 0) - (b + 1)) / 2 ≡ (a / 2 + 0) - ((b + 1) / 2 + 1)
back-half zero b e h = omega arith
back-half (suc a) zero e h = omega arith
back-half (suc a) (suc b) e h = absurd (omega arith)

-- one back and one on from an even component
module _ (z : ℤ) (e : rest_z z 2 ≡ 0) where
  even : (above z + below z) % 2 ≡ 0
  even = sym (rest_parts z) ∙ e

  back_whole : shr_z (z +ℤ negsuc 0) 2 ≡ shr_z z 2 +ℤ negsuc 0
  back_whole =
      ext (shr_z (z +ℤ negsuc 0) 2) (shr_z z 2 +ℤ negsuc 0)
      (above-shr (z +ℤ negsuc 0) 2 ∙ ap (λ (n : ℕ). n / 2) (above-add z (negsuc 0)) ∙ back-half (above z) (below z) even (sides z)
      ∙ sym (above-add (shr_z z 2) (negsuc 0) ∙ ap₂ (λ (a b : ℕ). (a + 0) - (b + 1)) (above-shr z 2) (below-shr z 1)))
      (omega (arith, even, below-shr (z +ℤ negsuc 0) 1, below-add z (negsuc 0), below-add (shr_z z 2) (negsuc 0), above-shr z 2, below-shr z 1, sides z))

  back_rest : rest_z (z +ℤ negsuc 0) 2 ≡ 1
  back_rest = rest_parts (z +ℤ negsuc 0) ∙ omega (arith, even, above-add z (negsuc 0), below-add z (negsuc 0), sides z)

  on_whole : shr_z (z +ℤ pos 1) 2 ≡ shr_z z 2
  on_whole =
      ext (shr_z (z +ℤ pos 1) 2) (shr_z z 2)
      (omega (arith, even, above-shr (z +ℤ pos 1) 2, above-add z (pos 1), above-shr z 2, sides z))
      (omega (arith, even, below-shr (z +ℤ pos 1) 1, below-add z (pos 1), below-shr z 1, sides z))

  on_rest : rest_z (z +ℤ pos 1) 2 ≡ 1
  on_rest = rest_parts (z +ℤ pos 1) ∙ omega (arith, even, above-add z (pos 1), below-add z (pos 1), sides z)

-- half a sample back, none or half a sample on
abbrev pub half_step : ℤ → ℕ → ℤ
half_step z k = (z +ℤ pos (1 * k)) -ℤ pos 1

abbrev step_half : ℤ → ℕ → HalfPel
step_half z k = record { whole = (shr_z z 2 -ℤ pos 1) +ℤ pos (read_from k); half = off_whole k }

split_by : (y y' w w' : ℤ) (b : Bool) (r : ℕ) → y ≡ y' → shr_z y' 2 ≡ w → w ≡ w' → rest_z y' 2 ≡ r → not (eqb r 0) ≡ b
    → split_half y ≡ record { whole = w'; half = b }
split_by y y' w w' b r e f g h k =
    ap split_half e ∙ ap₂ (λ (u : ℤ) (t : Bool). record { whole = u; half = t }) (f ∙ g) (ap (λ (n : ℕ). not (eqb n 0)) h ∙ k)

-- the whole place where it is read, and whether it lies between samples
pub split_step : (z : ℤ) → rest_z z 2 ≡ 0 → (k : ℕ) → k < 3 → split_half (half_step z k) ≡ step_half z k
split_step z e zero h =
    split_by (half_step z 0) (z +ℤ negsuc 0) (shr_z z 2 +ℤ negsuc 0) ((shr_z z 2 -ℤ pos 1) +ℤ pos 0) true 1
    (+ℤ_assoc z (pos 0) (negsuc 0)) (back_whole z e) (sym (+ℤ_idr (shr_z z 2 +ℤ negsuc 0))) (back_rest z e) refl
split_step z e (suc zero) h =
    split_by (half_step z 1) z (shr_z z 2) ((shr_z z 2 -ℤ pos 1) +ℤ pos 1) false 0
    (+ℤ_assoc z (pos 1) (negsuc 0) ∙ +ℤ_idr z) refl (sym (+ℤ_assoc (shr_z z 2) (negsuc 0) (pos 1) ∙ +ℤ_idr (shr_z z 2))) e refl
split_step z e (suc (suc zero)) h =
    split_by (half_step z 2) (z +ℤ pos 1) (shr_z z 2) ((shr_z z 2 -ℤ pos 1) +ℤ pos 1) true 1
    (+ℤ_assoc z (pos 2) (negsuc 0)) (on_whole z e) (sym (+ℤ_assoc (shr_z z 2) (negsuc 0) (pos 1) ∙ +ℤ_idr (shr_z z 2))) (on_rest z e) refl
split_step z e (suc (suc (suc k))) h = absurd (omega arith)

-- ---- the ring

read_most : (k : ℕ) → read_from k ≤ 1
read_most zero = omega arith
read_most (suc k) = omega arith

-- a coordinate of the patch's column or row i + read_from k
reach : (x d : ℤ) (k i : ℕ) → (x +ℤ d) +ℤ pos (k + i) ≡ (x +ℤ (d +ℤ pos k)) +ℤ pos i
reach x d k i = sym (+ℤ_assoc (x +ℤ d) (pos k) (pos i)) ∙ ap (λ (z : ℤ). z +ℤ pos i) (+ℤ_assoc x d (pos k))

module _ (p : Plane) (corner : Point) (v : MotionVector) (ex : rest_z v.x 2 ≡ 0) (ey : rest_z v.y 2 ≡ 0) (side rounding : ℕ) where
  -- the patch around the vector's place, and how much of it has neighbours
  abbrev pub ring_patch : List ℕ
  ring_patch = copied_block p (ring_corner corner v) (side + 2) (side + 2)

  abbrev pub ring_size : ℕ
  ring_size = (side + 1) * (side + 2) - 1

  module _ (kx ky : ℕ) (hx : kx < 3) (hy : ky < 3) where
    -- the vector half a sample back, none or half a sample on, in either direction
    abbrev moved : MotionVector
    moved = record { x = half_step v.x kx; y = half_step v.y ky }

    abbrev x₀ : ℤ
    x₀ = (ring_corner corner v).x

    abbrev y₀ : ℤ
    y₀ = (ring_corner corner v).y

    -- what the vector is read from
    abbrev x₁ : ℤ
    x₁ = corner.x +ℤ (step_half v.x kx).whole

    abbrev y₁ : ℤ
    y₁ = corner.y +ℤ (step_half v.y ky).whole

    same_sample : (i j : ℕ) → copied p x₀ y₀ (read_from kx + i) (read_from ky + j) ≡ copied p x₁ y₁ i j
    same_sample i j =
        ap₂ (sample_at p) (reach corner.x (shr_z v.x 2 -ℤ pos 1) (read_from kx) i) (reach corner.y (shr_z v.y 2 -ℤ pos 1) (read_from ky) j)

    half_is : (i j : ℕ) → half_sample p corner moved rounding i j ≡ sample_from p x₁ y₁ (off_whole kx) (off_whole ky) (rounding % 2) i j
    unfolding half_sample
    half_is i j =
        ap₂ (λ (s t : HalfPel). sample_from p (corner.x +ℤ s.whole) (corner.y +ℤ t.whole) s.half t.half (rounding % 2) i j)
        (split_step v.x ex kx hx) (split_step v.y ey ky hy)

    -- the patch has what it lies between
    module _ (i j : ℕ) (hi : i < side) (hj : j < side) where
      abbrev column : ℕ
      column = read_from kx + i

      abbrev row : ℕ
      row = read_from ky + j

      abbrev stride : ℕ
      stride = side + 2

      place : read_from ky * stride + read_from kx + j * stride + i ≡ row * stride + column
      place = omega (arith, add-mul (read_from ky) j stride)

      within : row * stride + column < ring_size
      within =
          let h : row ≤ side = omega (arith, read_most ky) in
          omega (arith, read_most kx, mul-le-mul_right stride h, add-mul side 1 stride)

      sample_is : sample_from p x₀ y₀ (off_whole kx) (off_whole ky) (rounding % 2) column row
          ≡ sample_from p x₁ y₁ (off_whole kx) (off_whole ky) (rounding % 2) i j
      sample_is =
          let f = copied p x₀ y₀ in
          let c : column + 1 ≡ read_from kx + (i + 1) = omega arith in
          let r : row + 1 ≡ read_from ky + (j + 1) = omega arith in
          ap₂ (λ (s t : ℕ). pixel_of s t (f column (row + 1)) (f (column + 1) (row + 1)) (off_whole kx) (off_whole ky) (rounding % 2))
          (same_sample i j) (ap (λ (k : ℕ). f k row) c ∙ same_sample (i + 1) j)
          ∙ ap₂ (λ (s t : ℕ). pixel_of (copied p x₁ y₁ i j) (copied p x₁ y₁ (i + 1) j) s t (off_whole kx) (off_whole ky) (rounding % 2))
          (ap (f column) r ∙ same_sample i (j + 1)) (ap₂ f c r ∙ same_sample (i + 1) (j + 1))

      -- a window of the grid is the block that the vector predicts
      pub ring-sample : get_or (ring_grid ring_patch stride (off_whole kx) (off_whole ky) rounding ring_size) (read_from ky * stride + read_from kx + j * stride + i) 0
          ≡ half_sample p corner moved rounding i j
      ring-sample =
          ap (λ (k : ℕ). get_or (ring_grid ring_patch stride (off_whole kx) (off_whole ky) rounding ring_size) k 0) place
          ∙ grid_at stride stride (copied p x₀ y₀) (off_whole kx) (off_whole ky) rounding ring_size column row
          (omega (arith, read_most kx)) (omega (arith, read_most ky)) within
          ∙ sample_is ∙ sym (half_is i j)

step_none : (z : ℤ) → half_step z 1 ≡ z
step_none z = +ℤ_assoc z (pos 1) (negsuc 0) ∙ +ℤ_idr z

-- and in the middle of the patch is the block at the whole place
pub centre_sample : (p : Plane) (corner : Point) (v : MotionVector) → rest_z v.x 2 ≡ 0 → rest_z v.y 2 ≡ 0 → (side rounding i j : ℕ) → i < side → j < side
    → get_or (copied_block p (ring_corner corner v) (side + 2) (side + 2)) (side + 3 + j * (side + 2) + i) 0 ≡ half_sample p corner v rounding i j
centre_sample p corner v ex ey side rounding i j hi hj =
    let stride = side + 2 in
    let c = ring_corner corner v in
    let e : side + 3 + j * stride + i ≡ (1 + j) * stride + (1 + i) = omega (arith, add-mul 1 j stride) in
    let o : 1 < 3 = omega arith in
    ap (λ (k : ℕ). get_or (copied_block p c stride stride) k 0) e
    ∙ get_or-raster stride stride (copied p c.x c.y) (1 + i) (1 + j) 0 (omega arith) (omega arith)
    ∙ same_sample p corner v ex ey side rounding 1 1 o o i j
    ∙ sym (half_is p corner v ex ey side rounding 1 1 o o i j)
    ∙ ap₂ (λ (x y : ℤ). half_sample p corner (record { x = x; y = y }) rounding i j) (step_none v.x) (step_none v.y)

pub length_grid : (patch : List ℕ) (stride : ℕ) (hx hy : Bool) (rounding n : ℕ) → length (ring_grid patch stride hx hy rounding n) ≡ n
unfolding ring_grid
length_grid patch stride hx hy rounding n = length-tabulate n (ring_at patch stride hx hy (rounding % 2))
