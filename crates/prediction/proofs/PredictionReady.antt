-- What holds where the prediction of a macroblock's three areas is not refused, and what is enough for it. Assumes nothing.
use Prim.Native.Nat.{ℕ, ◌+◌, ◌*◌, ◌≤◌}
use native.Mathlib.Omega.{arith}
use mathlib.Core.Bool.{Bool, true, false, ◌&&◌}
use mathlib.Core.Path.{◌≡◌, refl, ap, ◌∙◌}
use lib.Dec.{eqb}
use lib.IntN.{pos, negsuc}
use borrow.Author.Tests.{eqb-true, eq-eqb}
use Rattle.basis.proofs.Case.{both}
use Rattle.refusal.specs.declared.Refusal.TheVariants.{Place, Length}
use Rattle.refusal.specs.Reply.{Reply}
use Rattle.std.specs.Prelude.{Ok, Err}
use Rattle.refusal.specs.Reply.{unless, and_then}
use Rattle.refusal.specs.Test.{in_range}
use Rattle.refusal.proofs.Replies.{first_done, then_done, unless-done, both_done}
use Rattle.refusal.proofs.Tests.{and_left, and_right, range-high, range_is}
use Rattle.record.specs.declared.MotionVector.{MotionVector}
use Rattle.plane.specs.declared.Geometry.{Geometry}
use Rattle.plane.specs.declared.MacroblockPlace.{MacroblockPlace}
use Rattle.plane.specs.declared.Point.{Point}
use Rattle.plane.specs.Corner.{block_corner, corner_of, corner_at, square_at}
use Rattle.plane.specs.Reference.{reference_size_reply, reference_bytes_reply, reference_reply, origin_in_range, vector_in_range, motion_reply, block_reply}
use Rattle.plane.proofs.Ready.{length-done, block_done, motion_done, origin_ready}
use Rattle.prediction.specs.declared.BVopSampleMode.{BVopSampleMode}
use Rattle.prediction.specs.declared.PvopMbMotion.{PvopMbMotion}
use Rattle.prediction.specs.declared.PvopMbMotion.TheVariants.{OneMv, FourMv}
use Rattle.prediction.specs.declared.PlaneLengths.{PlaneLengths}
use Rattle.prediction.specs.declared.ReferenceGeometry.{ReferenceGeometry}
use Rattle.prediction.specs.Luma.{rounding_reply}
use Rattle.prediction.specs.Macroblock.{mode_reply, motions_reply, macroblock_reply}
use Rattle.prediction.specs.Chroma.{chroma_vector, motion_in_range}
use Rattle.prediction.specs.Planes.{chroma_geometry, planes_reply}
use Rattle.prediction.specs.Prediction.{samples_reply, prediction_reply}
use Rattle.prediction.proofs.Ready.{first_corner}

-- no plane of the reference is refused
pub record PlanesReady (g : ReferenceGeometry) (n : PlaneLengths) : Type 0 where
  pub luma : reference_reply g.luma n.y ≡ Ok tt
  pub blue : reference_reply (chroma_geometry g) n.cb ≡ Ok tt
  pub red : reference_reply (chroma_geometry g) n.cr ≡ Ok tt

pub planes_ready : (g : ReferenceGeometry) (n : PlaneLengths) → planes_reply g n ≡ Ok tt → PlanesReady g n
unfolding planes_reply reference_reply
planes_ready g n e =
    let sl = reference_size_reply g.luma in
    let sc = reference_size_reply (chroma_geometry g) in
    let by = reference_bytes_reply g.luma n.y in
    let bb = reference_bytes_reply (chroma_geometry g) n.cb in
    let br = reference_bytes_reply (chroma_geometry g) n.cr in
    let e1 = then_done sl (and_then sc (and_then by (and_then bb br))) e in
    let e2 = then_done sc (and_then by (and_then bb br)) e1 in
    let e3 = then_done by (and_then bb br) e2 in
    let c = first_done sc (and_then by (and_then bb br)) e1 in
    record {
      luma = both_done (first_done sl (and_then sc (and_then by (and_then bb br))) e) (first_done by (and_then bb br) e2);
      blue = both_done c (first_done bb br e3);
      red = both_done c (then_done bb br e3);
    }

-- areas of 256, 64 and 64 samples
pub record AreasReady (n : PlaneLengths) : Type 0 where
  pub luma : n.y ≡ 256
  pub blue : n.cb ≡ 64
  pub red : n.cr ≡ 64

pub areas_ready : (n : PlaneLengths) → samples_reply n ≡ Ok tt → AreasReady n
areas_ready n e =
    let y = eqb n.y 256 in
    let b = eqb n.cb 64 in
    let r = eqb n.cr 64 in
    let all = unless-done (y && (b && r)) Length (Ok tt) e in
    let chroma = and_right y (b && r) all in
    record {
      luma = eqb-true n.y 256 (and_left y (b && r) all);
      blue = eqb-true n.cb 64 (and_left b r chroma);
      red = eqb-true n.cr 64 (and_right b r chroma);
    }

pub areas-done : (n : PlaneLengths) → n.y ≡ 256 → n.cb ≡ 64 → n.cr ≡ 64 → samples_reply n ≡ Ok tt
areas-done n p q r =
    ap (λ (t : Bool). unless t Length (Ok tt)) (both (eq-eqb n.y 256 p) (both (eq-eqb n.cb 64 q) (eq-eqb n.cr 64 r)))

-- a corner in range is not beyond 4,096, and one from 0 to 4,096 is in range
pub record CornerIn (x y : ℕ) : Type 0 where
  pub across : x ≤ 4096
  pub down : y ≤ 4096

abbrev pub point_at : ℕ → ℕ → Point
point_at x y = record { x = pos x; y = pos y }

pub corner_in : (x y : ℕ) → origin_in_range (point_at x y) ≡ true → CornerIn x y
corner_in x y e =
    let a = in_range (negsuc 4095) (pos 4096) (pos x) in
    let b = in_range (negsuc 4095) (pos 4096) (pos y) in
    record {
      across = omega (arith, range-high (negsuc 4095) (pos 4096) (pos x) (and_left a b e));
      down = omega (arith, range-high (negsuc 4095) (pos 4096) (pos y) (and_right a b e));
    }

pub origin_done : (x y : ℕ) → x ≤ 4096 → y ≤ 4096 → origin_in_range (point_at x y) ≡ true
origin_done x y h k =
    both (range_is (negsuc 4095) (pos 4096) (pos x) (omega arith) (omega arith))
    (range_is (negsuc 4095) (pos 4096) (pos y) (omega arith) (omega arith))

-- a motion that is not refused has a vector in range
pub vector_ready : (v : MotionVector) (o : Point) → motion_reply v o ≡ Ok tt → vector_in_range v ≡ true
unfolding motion_reply
vector_ready v o e = and_right (origin_in_range o) (vector_in_range v) (unless-done (origin_in_range o && vector_in_range v) Place (Ok tt) e)

-- motions of a macroblock's place that are not refused
pub record MotionsReady (motion : PvopMbMotion) (place : MacroblockPlace) : Type 0 where
  pub column : place.column ≤ 256
  pub row : place.row ≤ 256
  pub vectors : motion_in_range motion ≡ true

pub motions_ready : (motion : PvopMbMotion) (place : MacroblockPlace) → motions_reply motion (corner_of place) ≡ Ok tt → MotionsReady motion place
motions_ready (OneMv v) place e =
    let at = corner_in (16 * place.column) (16 * place.row) (origin_ready v (corner_of place) e) in
    record { column = omega (arith, at.across); row = omega (arith, at.down); vectors = vector_ready v (corner_of place) e }
motions_ready (FourMv a b c d) place e =
    let o = corner_of place in
    let ra = motion_reply a (block_corner o 0) in
    let rb = motion_reply b (block_corner o 1) in
    let rc = motion_reply c (block_corner o 2) in
    let rd = motion_reply d (block_corner o 3) in
    let e1 = then_done ra (and_then rb (and_then rc rd)) e in
    let e2 = then_done rb (and_then rc rd) e1 in
    let ea = first_done ra (and_then rb (and_then rc rd)) e in
    let at = corner_in (16 * place.column + 0) (16 * place.row + 0) (origin_ready a (block_corner o 0) ea) in
    record {
      column = omega (arith, at.across);
      row = omega (arith, at.down);
      vectors = both (vector_ready a (block_corner o 0) ea)
          (both (vector_ready b (block_corner o 1) (first_done rb (and_then rc rd) e1))
          (both (vector_ready c (block_corner o 2) (first_done rc rd e2)) (vector_ready d (block_corner o 3) (then_done rc rd e2))));
    }

pub motions_done : (motion : PvopMbMotion) (place : MacroblockPlace) → motion_in_range motion ≡ true → place.column ≤ 255 → place.row ≤ 255
    → motions_reply motion (corner_of place) ≡ Ok tt
motions_done (OneMv v) place e h k =
    motion_done v (corner_of place) (origin_done (16 * place.column) (16 * place.row) (omega arith) (omega arith)) e
motions_done (FourMv a b c d) place e h k =
    let o = corner_of place in
    let x = 16 * place.column in
    let y = 16 * place.row in
    let va = vector_in_range a in
    let vb = vector_in_range b in
    let vc = vector_in_range c in
    let vd = vector_in_range d in
    let e1 = and_right va (vb && (vc && vd)) e in
    let e2 = and_right vb (vc && vd) e1 in
    both_done (motion_done a (block_corner o 0) (origin_done (x + 0) (y + 0) (omega arith) (omega arith)) (and_left va (vb && (vc && vd)) e))
    (both_done (motion_done b (block_corner o 1) (origin_done (x + 8) (y + 0) (omega arith) (omega arith)) (and_left vb (vc && vd) e1))
    (both_done (motion_done c (block_corner o 2) (origin_done (x + 0) (y + 8) (omega arith) (omega arith)) (and_left vc vd e2))
    (motion_done d (block_corner o 3) (origin_done (x + 8) (y + 8) (omega arith) (omega arith)) (and_right vc vd e2))))

-- a place beyond 256 is refused, whatever the motion
motion_refused : (v : MotionVector) (o : Point) → origin_in_range o ≡ false → motion_reply v o ≡ Err Place
unfolding motion_reply
motion_refused v o e = ap (λ (t : Bool). unless (t && vector_in_range v) Place (Ok tt)) e

outside : (motion : PvopMbMotion) (o : Point) → origin_in_range o ≡ false → motions_reply motion o ≡ Err Place
outside (OneMv v) o e = motion_refused v o e
outside (FourMv a b c d) o e =
    let rest = and_then (motion_reply b (block_corner o 1)) (and_then (motion_reply c (block_corner o 2)) (motion_reply d (block_corner o 3))) in
    ap (λ (r : Reply). and_then r rest) (motion_refused a (block_corner o 0) (ap origin_in_range (first_corner o) ∙ e))

pub far_refused : (motion : PvopMbMotion) (place : MacroblockPlace) → (CornerIn (16 * place.column) (16 * place.row) → ⊥)
    → motions_reply motion (corner_of place) ≡ Err Place
far_refused motion place far = by (origin_in_range (corner_of place)) refl
  where
    by : (t : Bool) → origin_in_range (corner_of place) ≡ t → motions_reply motion (corner_of place) ≡ Err Place
    by true e = absurd (far (corner_in (16 * place.column) (16 * place.row) e))
    by false e = outside motion (corner_of place) e

-- each test has passed
pub record PredictionReady (m : BVopSampleMode) (g : ReferenceGeometry) (n : PlaneLengths) (motion : PvopMbMotion)
    (place : MacroblockPlace) (rounding : ℕ) (out : PlaneLengths) : Type 0 where
  pub mode : mode_reply m ≡ Ok tt
  pub planes : PlanesReady g n
  pub motions : motions_reply motion (corner_of place) ≡ Ok tt
  pub moved : MotionsReady motion place
  pub areas : AreasReady out
  pub rounding_type : rounding_reply rounding ≡ Ok tt

module _ (m : BVopSampleMode) (g : ReferenceGeometry) (n : PlaneLengths) (motion : PvopMbMotion) (place : MacroblockPlace)
    (rounding : ℕ) (out : PlaneLengths) where
  pub prediction_ready : prediction_reply m g n motion place rounding out ≡ Ok tt → PredictionReady m g n motion place rounding out
  unfolding prediction_reply
  prediction_ready e =
      let p = planes_reply g n in
      let v = motions_reply motion (corner_of place) in
      let s = samples_reply out in
      let r = rounding_reply rounding in
      let e1 = then_done (mode_reply m) (and_then p (and_then v (and_then s r))) e in
      let e2 = then_done p (and_then v (and_then s r)) e1 in
      let e3 = then_done v (and_then s r) e2 in
      let at = first_done v (and_then s r) e2 in
      record {
        mode = first_done (mode_reply m) (and_then p (and_then v (and_then s r))) e;
        planes = planes_ready g n (first_done p (and_then v (and_then s r)) e1);
        motions = at;
        moved = motions_ready motion place at;
        areas = areas_ready out (first_done s r e3);
        rounding_type = then_done s r e3;
      }

  pub prediction_done : mode_reply m ≡ Ok tt → planes_reply g n ≡ Ok tt → motion_in_range motion ≡ true → place.column ≤ 255
      → place.row ≤ 255 → rounding_reply rounding ≡ Ok tt → out.y ≡ 256 → out.cb ≡ 64 → out.cr ≡ 64
      → prediction_reply m g n motion place rounding out ≡ Ok tt
  unfolding prediction_reply
  prediction_done e p v c r t y cb cr =
      both_done e (both_done p (both_done (motions_done motion place v c r) (both_done (areas-done out y cb cr) t)))

-- the luma of a macroblock whose parts are in range
pub macroblock-done : (m : BVopSampleMode) (g : Geometry) (bytes : ℕ) (motion : PvopMbMotion) (corner : Point) (rounding area : ℕ)
    → mode_reply m ≡ Ok tt → reference_reply g bytes ≡ Ok tt → motions_reply motion corner ≡ Ok tt → rounding_reply rounding ≡ Ok tt
    → area ≡ 256 → macroblock_reply m g bytes motion corner rounding area ≡ Ok tt
unfolding macroblock_reply
macroblock-done m g bytes motion corner rounding area e r v t f =
    both_done e (both_done r (both_done v (both_done (length-done area 16 16 f) t)))

-- a chroma block whose parts are in range
pub chroma-done : (m : BVopSampleMode) (g : Geometry) (bytes : ℕ) (motion : PvopMbMotion) (place : MacroblockPlace) (area : ℕ)
    → reference_reply g bytes ≡ Ok tt → MotionsReady motion place → vector_in_range (chroma_vector m motion) ≡ true → area ≡ 64
    → block_reply g bytes (chroma_vector m motion) (square_at (corner_at 8 place) 8) area ≡ Ok tt
chroma-done m g bytes motion place area e v w f =
    block_done g bytes (chroma_vector m motion) (square_at (corner_at 8 place) 8) area e
    (motion_done (chroma_vector m motion) (corner_at 8 place)
    (origin_done (8 * place.column) (8 * place.row) (omega (arith, v.column)) (omega (arith, v.row)))
    w)
    f refl refl
