-- A request for a place inside its source is not refused for the place: its reply is never 8. Assumes nothing.
use Prim.Native.Nat.{ℕ, ◌+◌, ◌*◌, ◌-◌}
use native.Mathlib.Omega.{arith}
use mathlib.Core.Bool.{Bool, ◌&&◌, ◌||◌, not}
use mathlib.Core.List.{List}
use mathlib.Core.Path.{◌≡◌}
use lib.Dec.{eqb, ltb}
use lib.ListN.{length}
use Rattle.refusal.specs.declared.Refusal.TheVariants.{Fcode, Mode, BitsPerPixel, ReferenceSize, ReferenceBytes}
use Rattle.refusal.specs.declared.Refusal.TheVariants.{SourceSide, SourcePlane, Quantiser, Weight, Length, Choice, RoundingType}
use Rattle.std.specs.Prelude.{Ok}
use Rattle.refusal.specs.Number.{code_of}
use Rattle.refusal.specs.Reply.{unless}
use Rattle.refusal.specs.Test.{between}
use Rattle.refusal.proofs.Others.{Other, unless_other, and_then_other, done_other}
use Rattle.plane.specs.declared.Geometry.{Geometry}
use Rattle.plane.specs.declared.SourceSize.{SourceSize}
use Rattle.plane.specs.declared.MacroblockPlace.{MacroblockPlace}
use Rattle.plane.specs.Reference.{sized, reference_size_reply, reference_bytes_reply, reference_reply}
use Rattle.plane.specs.Source.{chroma_size, source_side_reply, holds, place_reply, source_reply}
use Rattle.prediction.specs.declared.PlaneLengths.{PlaneLengths}
use Rattle.prediction.specs.declared.ReferenceGeometry.{ReferenceGeometry}
use Rattle.prediction.specs.Luma.{rounding_reply}
use Rattle.prediction.specs.Planes.{chroma_geometry, lengths_in, planes_reply}
use Rattle.quantise.specs.Block.{no_zero, weight_reply}
use Rattle.search.specs.Request.{settings_reply}
use Rattle.macroblock.specs.declared.Lengths.{Lengths}
use Rattle.macroblock.specs.Request.{Request, areas_long, lengths_reply, choice_reply, request_reply, lengths_of, reply_of}
use Rattle.macroblock.specs.Predicted.{PredictedRequest, predicted_reply, predicted_reply_of}

-- the groups of a request's list

settings_other : (fcode mode bpp : ℕ) → Other 8 (settings_reply fcode mode bpp)
unfolding settings_reply
settings_other fcode mode bpp =
    unless_other (between 1 7 fcode) Fcode (λ e. omega arith)
    (unless_other (eqb mode 0 || eqb mode 1) Mode (λ e. omega arith)
    (unless_other (eqb mode 0 || between 1 8 bpp) BitsPerPixel (λ e. omega arith) (done_other (omega arith))))

size_other : (g : Geometry) → Other 8 (reference_size_reply g)
unfolding reference_size_reply
size_other g = unless_other (sized g) ReferenceSize (λ e. omega arith) (done_other (omega arith))

bytes_other : (g : Geometry) (bytes : ℕ) → Other 8 (reference_bytes_reply g bytes)
unfolding reference_bytes_reply
bytes_other g bytes =
    unless_other (ltb ((g.height - 1) * g.stride + (g.width - 1)) bytes) ReferenceBytes (λ e. omega arith) (done_other (omega arith))

reference_other : (g : Geometry) (bytes : ℕ) → Other 8 (reference_reply g bytes)
unfolding reference_reply
reference_other g bytes = and_then_other _ (size_other g) (bytes_other g bytes)

source_other : (s : SourceSize) (y cb cr : ℕ) (at : MacroblockPlace) → place_reply s at ≡ Ok tt → Other 8 (source_reply s y cb cr at)
unfolding source_reply source_side_reply
source_other s y cb cr at e =
    and_then_other _
    (unless_other (between 1 4096 s.width && between 1 4096 s.height) SourceSide (λ e. omega arith) (done_other (omega arith)))
    (unless_other (holds s y && (holds (chroma_size s) cb && holds (chroma_size s) cr)) SourcePlane (λ e. omega arith)
    (rw e (done_other (omega arith))))

weight_other : (q : ℕ) (first : Bool) (weights : List ℕ) → Other 8 (weight_reply q first weights)
unfolding weight_reply
weight_other q first weights =
    unless_other (between 1 31 q) Quantiser (λ e. omega arith)
    (unless_other (not first || no_zero weights) Weight (λ e. omega arith) (done_other (omega arith)))

lengths_other : (n : Lengths) → Other 8 (lengths_reply n)
unfolding lengths_reply
lengths_other n =
    let prediction = eqb n.pred_y 256 && (eqb n.pred_cb 64 && eqb n.pred_cr 64) in
    let rest = eqb n.weights 64 && (eqb n.lasts 384 && (eqb n.runs 384 && eqb n.levels 384)) in
    unless_other (prediction && rest) Length (λ e. omega arith) (done_other (omega arith))

choice_other : (vectors scan : ℕ) → Other 8 (choice_reply vectors scan)
unfolding choice_reply
choice_other vectors scan =
    unless_other ((eqb vectors 1 || eqb vectors 4) && between 0 2 scan) Choice (λ e. omega arith) (done_other (omega arith))

-- THE LAW
pub never_8 : (q : Request) → place_reply q.size q.place ≡ Ok tt → code_of (reply_of q) ≡ 8 → ⊥
unfolding request_reply
never_8 q e =
    (and_then_other _ (settings_other q.settings.fcode q.settings.mode q.settings.bpp)
    (and_then_other _ (reference_other q.geometry _)
    (and_then_other _ (source_other q.size _ _ _ q.place e)
    (and_then_other _ (weight_other q.settings.quantiser q.settings.first_method q.weights)
    (and_then_other _ (lengths_other (lengths_of q)) (choice_other q.settings.vectors q.settings.scan)))))
    ).is_not

-- ---- the same where the prediction is made here

planes_other : (g : ReferenceGeometry) (n : PlaneLengths) → Other 8 (planes_reply g n)
unfolding planes_reply
planes_other g n =
    and_then_other _ (size_other g.luma)
    (and_then_other _ (size_other (chroma_geometry g))
    (and_then_other _ (bytes_other g.luma n.y)
    (and_then_other _ (bytes_other (chroma_geometry g) n.cb) (bytes_other (chroma_geometry g) n.cr))))

areas_other : (weights lasts runs levels : ℕ) → Other 8 (unless (areas_long weights lasts runs levels) Length (Ok tt))
areas_other weights lasts runs levels =
    unless_other (areas_long weights lasts runs levels) Length (λ e. omega arith) (done_other (omega arith))

rounding_other : (rounding : ℕ) → Other 8 (rounding_reply rounding)
unfolding rounding_reply
rounding_other rounding = unless_other (between 0 1 rounding) RoundingType (λ e. omega arith) (done_other (omega arith))

pub predicted_never_8 : (n : PredictedRequest) → place_reply n.size n.place ≡ Ok tt → code_of (predicted_reply_of n) ≡ 8 → ⊥
unfolding predicted_reply
predicted_never_8 n e =
    (and_then_other _ (settings_other n.settings.fcode n.settings.mode n.settings.bpp)
    (and_then_other _ (planes_other n.geometry (lengths_in n.reference))
    (and_then_other _ (source_other n.size _ _ _ n.place e)
    (and_then_other _ (weight_other n.settings.quantiser n.settings.first_method n.weights)
    (and_then_other _ (areas_other (length n.weights) (length n.areas.lasts) (length n.areas.runs) (length n.areas.levels))
    (and_then_other _ (choice_other n.settings.vectors n.settings.scan) (rounding_other n.rounding))))))
    ).is_not
