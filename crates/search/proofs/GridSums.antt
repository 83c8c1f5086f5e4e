-- The half ring in half mode: the sums on windows of grids are those of the ring's vectors. Assumes nothing.
use Prim.Native.Nat.{ℕ, zero, suc, ◌+◌, ◌-◌, ◌*◌, ◌/◌, ◌%◌, ◌<◌, ◌≤◌}
use native.Mathlib.Nat.{add-mul, mul-le-mul_right}
use native.Mathlib.Omega.{arith}
use mathlib.Core.Bool.{Bool, true, false, not, ◌&&◌, ◌||◌}
use mathlib.Core.List.{List}
use mathlib.Core.Path.{◌≡◌, refl, sym, ap, ◌∙◌}
use borrow.Author.Tests.{eqb-true}
use lib.Dec.{eqb}
use lib.IntN.{ℤ, pos, negsuc, +ℤ_assoc, +ℤ_idr}
use lib.ListN.{length}
use Rattle.basis.specs.Cut.{cut_to}
use Rattle.basis.specs.Division.{rest_z}
use Rattle.basis.proofs.Cut.{cut_none}
use Rattle.basis.proofs.Lists.{length-raster}
use Rattle.refusal.specs.Test.{in_range}
use Rattle.refusal.proofs.Tests.{and_left, and_right, range-low, range-high}
use Rattle.record.specs.declared.MotionVector.{MotionVector}
use Rattle.plane.specs.Plane.{Plane, plane_of}
use Rattle.plane.specs.Reference.{is_side}
use Rattle.prediction.specs.declared.BVopSampleMode.{BVopSampleMode}
use Rattle.prediction.specs.declared.BVopSampleMode.TheVariants.{HalfPel}
use Rattle.prediction.specs.Luma.{predicted_sample}
use Rattle.plane.specs.Corner.{square_at}
use Rattle.half_sample.specs.Block.{half_sample}
use Rattle.half_sample.specs.Split.{half_of}
use Rattle.half_sample.specs.Ring.{off_whole, read_from, ring_grid}
use Rattle.half_sample.proofs.Grids.{ring-sample, centre_sample}
use Rattle.full_search.specs.declared.Sought.{Sought}
use Rattle.full_search.specs.Block.{Block, differences, row_by_row, lent_block}
use Rattle.full_search.specs.Window.{window_at, window_sum_of}
use Rattle.full_search.proofs.EqualSums.{differences_cong}
use Rattle.full_search.proofs.Sides.{side_least}
use Rattle.full_search.proofs.WindowSums.{window_sum_is}
use Rattle.search.specs.declared.SearchSettings.{SearchSettings}
use Rattle.search.specs.declared.half_grids.HalfGrids.{HalfGrids}
use Rattle.search.specs.Range.{low, high, vector_in}
use Rattle.search.specs.Sums.{vector_sum}
use Rattle.search.specs.Sub.{stepped, neighbour}
use Rattle.search.specs.Told.{SoughtReady}
use Rattle.search.specs.ToldGrids.{half_sum, beside, free, grid_of, window_of, grid_sum, grid_size, patch_of}
use Rattle.search.specs.ToldHalfGrids.{LentGrids}

-- in half mode the sum of a vector is this one
pub half_sums : (s : SearchSettings) (b : Block) → s.mode ≡ HalfPel → vector_sum s b ≡ half_sum s.rounding b
unfolding vector_sum
half_sums s b e = ap sum_by e
  where
    sum_by : BVopSampleMode → MotionVector → ℕ
    sum_by m v = differences b.side b.source (predicted_sample m b.reference (square_at b.corner b.side) s.rounding v)

-- ---- where windows stand

pub read_most : (k : ℕ) → read_from k ≤ 1
read_most zero = omega arith
read_most (suc k) = omega arith

pub window_most : (stride n : ℕ) → window_of stride n ≤ stride + 1
window_most stride n = omega (arith, mul-le-mul_right stride (read_most (n / 3)), read_most (n % 3))

-- every window lies within its grid
pub window_within : (side n : ℕ) → is_side side ≡ true → window_of (side + 2) n + (side - 1) * (side + 2) + side ≤ grid_size side
window_within side n h =
    let s = side + 2 in
    let k : side - 1 + 1 ≡ side = omega (arith, side_least side h) in
    omega (arith, window_most s n, add-mul (side - 1) 1 s, ap (λ (t : ℕ). t * s) k, add-mul side 1 s)

-- and the middle within its patch
pub centre_within : (side : ℕ) → is_side side ≡ true → side + 3 + (side - 1) * (side + 2) + side ≤ (side + 2) * (side + 2)
centre_within side h =
    let s = side + 2 in
    let k : side - 1 + 1 ≡ side = omega (arith, side_least side h) in
    omega (arith, add-mul (side - 1) 1 s, ap (λ (t : ℕ). t * s) k, add-mul side 2 s)

-- the grids are a row and a sample shorter than the patch
pub grid_shorter : (side : ℕ) → grid_size side + (side + 2) < (side + 2) * (side + 2)
grid_shorter side =
    let s = side + 2 in
    omega (arith, add-mul side 1 s, add-mul side 2 s)

-- ---- which grid

-- all places but the middle lie between samples
some_off : (n : ℕ) → (n ≡ 4 → ⊥) → (off_whole (n % 3) || off_whole (n / 3)) ≡ true
some_off n h = at (eqb (n % 3) 1) refl (eqb (n / 3) 1) refl
  where
    at : (a : Bool) → eqb (n % 3) 1 ≡ a → (b : Bool) → eqb (n / 3) 1 ≡ b → (not a || not b) ≡ true
    at false p b q = refl
    at true p false q = refl
    at true p true q = absurd (h (omega (arith, eqb-true (n % 3) 1 p, eqb-true (n / 3) 1 q)))

-- the sum of the window of place n of one of the grids
pub standing : (g : HalfGrids) (grid : List ℕ) (n at : ℕ) → LentGrids g → length grid ≡ grid_size g.side → at ≡ window_of (g.side + 2) n
    → window_sum_of g.source.now grid at (g.side + 2) g.side
    ≡ differences g.side (row_by_row g.side g.source.now) (window_at grid (window_of (g.side + 2) n) (g.side + 2))
standing g grid n at r f e =
    let side = g.side in
    ap (λ (k : ℕ). window_sum_of g.source.now grid k (side + 2) side) e
    ∙ window_sum_is g.source.now grid (window_of (side + 2) n) (side + 2) side r.is_side_is r.source_fits (omega (arith, window_within side n r.is_side_is, f))

-- ---- a start that is free

even_of : (z : ℤ) → half_of z ≡ false → rest_z z 2 ≡ 0
even_of z e = at (rest_z z 2) (eqb (rest_z z 2) 0) refl e
  where
    at : (r : ℕ) (t : Bool) → eqb r 0 ≡ t → not t ≡ false → r ≡ 0
    at r true f g = eqb-true r 0 f
    at r false f g = absurd (let z : ◌≡◌ {A = ℕ} 0 1 = cc in omega arith)

neither : (a b : Bool) → not (a || b) ≡ true → (a ≡ false) × (b ≡ false)
neither false false e = (refl, refl)
neither false true e = (refl, sym e)
neither true b e = (sym e, absurd (let z : ◌≡◌ {A = ℕ} 0 1 = cc in omega arith))

step_none : (z : ℤ) → stepped z 1 1 ≡ z
step_none z = +ℤ_assoc z (pos 1) (negsuc 0) ∙ +ℤ_idr z

-- of a component's three places each is in range
part_in : (l h z : ℤ) (k : ℕ) → k < 3 → in_range l h (stepped z 1 0) ≡ true → in_range l h z ≡ true → in_range l h (stepped z 1 2) ≡ true
    → in_range l h (stepped z 1 k) ≡ true
part_in l h z zero q a b c = a
part_in l h z (suc zero) q a b c = ap (in_range l h) (step_none z) ∙ b
part_in l h z (suc (suc zero)) q a b c = c
part_in l h z (suc (suc (suc k))) q a b c = absurd (omega arith)

part_kept : (l h z : ℤ) → in_range l h z ≡ true → cut_to l h z ≡ z
part_kept l h z e = cut_none l h z (range-low l h z e) (range-high l h z e)

module _ (fcode : ℕ) (c : MotionVector) (f : free fcode c ≡ true) (e : vector_in fcode c ≡ true) where
  abbrev inside : ℤ → Bool
  inside z = in_range (low fcode) (high fcode) z

  abbrev both_in : Bool
  both_in = vector_in fcode (beside 1 c 0) && vector_in fcode (beside 1 c 8)

  whole : (half_of c.x ≡ false) × (half_of c.y ≡ false)
  whole = neither (half_of c.x) (half_of c.y) (and_left (not (half_of c.x || half_of c.y)) both_in f)

  pub even_x : rest_z c.x 2 ≡ 0
  even_x = even_of c.x whole.0

  pub even_y : rest_z c.y 2 ≡ 0
  even_y = even_of c.y whole.1

  first_in : vector_in fcode (beside 1 c 0) ≡ true
  first_in = and_left (vector_in fcode (beside 1 c 0)) (vector_in fcode (beside 1 c 8)) (and_right (not (half_of c.x || half_of c.y)) both_in f)

  last_in : vector_in fcode (beside 1 c 8) ≡ true
  last_in = and_right (vector_in fcode (beside 1 c 0)) (vector_in fcode (beside 1 c 8)) (and_right (not (half_of c.x || half_of c.y)) both_in f)

  x_kept : (k : ℕ) → k < 3 → cut_to (low fcode) (high fcode) (stepped c.x 1 k) ≡ stepped c.x 1 k
  x_kept k h =
      part_kept (low fcode) (high fcode) (stepped c.x 1 k)
      (part_in (low fcode) (high fcode) c.x k h (and_left (inside (stepped c.x 1 0)) (inside (stepped c.y 1 0)) first_in)
      (and_left (inside c.x) (inside c.y) e) (and_left (inside (stepped c.x 1 2)) (inside (stepped c.y 1 2)) last_in))

  y_kept : (k : ℕ) → k < 3 → cut_to (low fcode) (high fcode) (stepped c.y 1 k) ≡ stepped c.y 1 k
  y_kept k h =
      part_kept (low fcode) (high fcode) (stepped c.y 1 k)
      (part_in (low fcode) (high fcode) c.y k h (and_right (inside (stepped c.x 1 0)) (inside (stepped c.y 1 0)) first_in)
      (and_right (inside c.x) (inside c.y) e) (and_right (inside (stepped c.x 1 2)) (inside (stepped c.y 1 2)) last_in))

  -- no neighbour is clamped
  neighbour-free : (n : ℕ) → n < 9 → neighbour fcode 1 c n ≡ beside 1 c n
  neighbour-free n h =
      let x = x_kept (n % 3) (omega arith) in
      let y = y_kept (n / 3) (omega arith) in
      λ i. record { x = x i; y = y i }

  -- ---- the sums

  module _ (b : Sought) (rounding : ℕ) where
    abbrev side : ℕ
    side = b.target.side

    abbrev plane : Plane
    plane = plane_of b.reference.now b.target.geometry

    abbrev grid_by : Bool → Bool → List ℕ
    grid_by hx hy = ring_grid (patch_of b c) (side + 2) hx hy rounding (grid_size side)

    -- in the middle of the patch is the start's block
    pub start_sum : (patch : List ℕ) → SoughtReady b → patch ≡ patch_of b c
        → window_sum_of b.source.now patch (side + 3) (side + 2) side ≡ half_sum rounding (lent_block b) c
    start_sum patch r q =
        let source = row_by_row side b.source.now in
        let long : length patch ≡ (side + 2) * (side + 2) = ap length q ∙ length-raster (side + 2) (side + 2) _ in
        window_sum_is b.source.now patch (side + 3) (side + 2) side r.is_side_is r.source_fits (omega (arith, centre_within side r.is_side_is, long))
        ∙ differences_cong side source source (window_at patch (side + 3) (side + 2)) (half_sample plane b.target.corner c rounding)
        (λ i j h k. refl)
        (λ i j h k.
        ap (λ (p : List ℕ). window_at p (side + 3) (side + 2) i j) q
        ∙ centre_sample plane b.target.corner c even_x even_y side rounding i j h k)

    -- and the windows of the grids are the ring's
    module _ (right under diagonal : List ℕ) (r : right ≡ grid_by true false) (u : under ≡ grid_by false true) (d : diagonal ≡ grid_by true true) where
      grid_is : (hx hy : Bool) → (hx || hy) ≡ true → grid_of hx hy right under diagonal ≡ grid_by hx hy
      grid_is true false h = r
      grid_is false true h = u
      grid_is true true h = d
      grid_is false false h = absurd (let z : ◌≡◌ {A = ℕ} 0 1 = cc in omega arith)

      window_is : (n : ℕ) → n < 9 → (n ≡ 4 → ⊥) → (i j : ℕ) → i < side → j < side
          → window_at (grid_of (off_whole (n % 3)) (off_whole (n / 3)) right under diagonal) (window_of (side + 2) n) (side + 2) i j
          ≡ half_sample plane b.target.corner (neighbour fcode 1 c n) rounding i j
      window_is n h k i j l m =
          ap (λ (g : List ℕ). window_at g (window_of (side + 2) n) (side + 2) i j) (grid_is (off_whole (n % 3)) (off_whole (n / 3)) (some_off n k))
          ∙ ring-sample plane b.target.corner c even_x even_y side rounding (n % 3) (n / 3) (omega arith) (omega arith) i j l m
          ∙ ap (λ (v : MotionVector). half_sample plane b.target.corner v rounding i j) (sym (neighbour-free n h))

      pub ring_sums : (n : ℕ) → n < 9 → (n ≡ 4 → ⊥)
          → grid_sum side b.source.now right under diagonal n ≡ half_sum rounding (lent_block b) (neighbour fcode 1 c n)
      ring_sums n h k = differences_cong side _ _ _ _ (λ i j l m. refl) (window_is n h k)
