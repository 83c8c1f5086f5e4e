-- What holds where a macroblock's prediction is not turned back. Assumes nothing.
use Prim.Native.Nat.{ℕ, ◌*◌}
use mathlib.Core.Bool.{true}
use mathlib.Core.List.{[], ◌∷◌}
use mathlib.Core.Path.{◌≡◌, refl, sym, ap, ◌∙◌}
use lib.IntN.{+ℤ_idr}
use lib.ListN.{get_or}
use Rattle.basis.proofs.Small.{four}
use Rattle.std.specs.Prelude.{Ok}
use Rattle.refusal.specs.Reply.{and_then}
use Rattle.refusal.proofs.Replies.{first_done, then_done, both_done}
use Rattle.record.specs.declared.MotionVector.{MotionVector}
use Rattle.record.specs.Zero.{zero_vector}
use Rattle.plane.specs.declared.Geometry.{Geometry}
use Rattle.plane.specs.declared.Point.{Point}
use Rattle.plane.specs.declared.Site.{Site}
use Rattle.plane.specs.Corner.{block_corner, square_at}
use Rattle.plane.specs.Reference.{is_side, reference_reply, motion_reply, length_reply, block_reply}
use Rattle.plane.proofs.Ready.{length_is, block_done, origin_ready}
use Rattle.quarter_sample.specs.Block.{quarter_reply}
use Rattle.prediction.specs.declared.BVopSampleMode.{BVopSampleMode}
use Rattle.prediction.specs.declared.BVopSampleMode.TheVariants.{HalfPel, QuarterPel}
use Rattle.prediction.specs.declared.PvopMbMotion.{PvopMbMotion}
use Rattle.prediction.specs.declared.PvopMbMotion.TheVariants.{FourMv}
use Rattle.prediction.specs.Luma.{interpolation_reply, rounding_reply}
use Rattle.prediction.specs.Macroblock.{mode_reply, motions_reply, macroblock_reply}
use Rattle.prediction.specs.ToldFour.{FourReady}

-- what turns an interpolation back in either mode
pub interpolation_told : (m : BVopSampleMode) (g : Geometry) (bytes : ℕ) (v : MotionVector) (site : Site) (area : ℕ)
    → interpolation_reply m g bytes v site area ≡ and_then (mode_reply m) (block_reply g bytes v site area)
unfolding quarter_reply
interpolation_told HalfPel g bytes v site area = refl
interpolation_told (QuarterPel bpp) g bytes v site area = refl

-- a block whose parts are in range
pub luma_done : (m : BVopSampleMode) (g : Geometry) (bytes : ℕ) (v : MotionVector) (site : Site) (area : ℕ) → mode_reply m ≡ Ok tt
    → reference_reply g bytes ≡ Ok tt → motion_reply v site.corner ≡ Ok tt → area ≡ site.width * site.height
    → is_side site.width ≡ true → is_side site.height ≡ true → interpolation_reply m g bytes v site area ≡ Ok tt
luma_done m g bytes v site area b e f k p q =
    interpolation_told m g bytes v site area ∙ both_done b (block_done g bytes v site area e f k p q)

-- the first 8 x 8 block stands at the macroblock's own corner
pub first_corner : (corner : Point) → block_corner corner 0 ≡ corner
first_corner corner = λ i. record { x = +ℤ_idr corner.x i; y = +ℤ_idr corner.y i }

-- each test has passed
pub record MacroblockReady (m : BVopSampleMode) (g : Geometry) (bytes : ℕ) (v : PvopMbMotion) (corner : Point) (area : ℕ) : Type 0 where
  pub mode : mode_reply m ≡ Ok tt
  pub reference : reference_reply g bytes ≡ Ok tt
  pub motions : motions_reply v corner ≡ Ok tt
  pub fits : area ≡ 256

pub macroblock_ready : (m : BVopSampleMode) (g : Geometry) (bytes : ℕ) (v : PvopMbMotion) (corner : Point) (rounding area : ℕ)
    → macroblock_reply m g bytes v corner rounding area ≡ Ok tt → MacroblockReady m g bytes v corner area
unfolding macroblock_reply
macroblock_ready m g bytes v corner rounding area e =
    let r = reference_reply g bytes in
    let o = motions_reply v corner in
    let l = length_reply area 16 16 in
    let t = rounding_reply rounding in
    let e1 = then_done (mode_reply m) (and_then r (and_then o (and_then l t))) e in
    let e2 = then_done r (and_then o (and_then l t)) e1 in
    record {
      mode = first_done (mode_reply m) (and_then r (and_then o (and_then l t))) e;
      reference = first_done r (and_then o (and_then l t)) e1;
      motions = first_done o (and_then l t) e2;
      fits = length_is area 16 16 (first_done l t (then_done o (and_then l t) e2));
    }

-- with four vectors, none of the four blocks is turned back
pub four_ready : (m : BVopSampleMode) (g : Geometry) (bytes : ℕ) (a b c d : MotionVector) (corner : Point) (area : ℕ)
    → MacroblockReady m g bytes (FourMv a b c d) corner area → FourReady m g bytes (a ∷ b ∷ c ∷ d ∷ []) corner
four_ready m g bytes a b c d corner area r =
    let vs = a ∷ b ∷ c ∷ d ∷ [] in
    let ra = motion_reply a (block_corner corner 0) in
    let rb = motion_reply b (block_corner corner 1) in
    let rc = motion_reply c (block_corner corner 2) in
    let rd = motion_reply d (block_corner corner 3) in
    let e1 = then_done ra (and_then rb (and_then rc rd)) r.motions in
    let e2 = then_done rb (and_then rc rd) e1 in
    let ea = first_done ra (and_then rb (and_then rc rd)) r.motions in
    record {
      in_range_is = origin_ready a corner (ap (motion_reply a) (sym (first_corner corner)) ∙ ea);
      each =
          λ k h.
          luma_done m g bytes (get_or vs k zero_vector) (square_at (block_corner corner k) 8) 64 r.mode r.reference
          (four (λ (k : ℕ). motion_reply (get_or vs k zero_vector) (block_corner corner k) ≡ Ok tt)
          ea (first_done rb (and_then rc rd) e1) (first_done rc rd e2) (then_done rc rd e2) k h)
          refl refl refl;
    }
