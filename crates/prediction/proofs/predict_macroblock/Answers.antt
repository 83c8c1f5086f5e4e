-- `prediction::predict_macroblock` meets its contract.
use Prim.Native.Nat.{ℕ}
use native.Mathlib.Omega.{arith}
use mathlib.Core.List.{List}
use mathlib.Core.Path.{◌≡◌, sym, ap, ap₂, ◌∙◌}
use lib.ListN.{length}
use Rattle.std.specs.Prelude.{Ok}
use Rattle.record.specs.declared.MotionVector.{MotionVector}
use Rattle.plane.specs.declared.Geometry.{Geometry}
use Rattle.plane.specs.declared.Point.{Point}
use Rattle.plane.specs.Plane.{plane_of}
use Rattle.plane.specs.Corner.{corner_at, square_at}
use Rattle.plane.specs.Reference.{reference_reply, block_reply}
use Rattle.plane.specs.Samples.{samples, lent_samples, written_samples}
use Rattle.half_sample.specs.Block.{half_block}
use Rattle.prediction.specs.Macroblock.{macroblock_luma, macroblock_reply}
use Rattle.prediction.specs.Planes.{chroma_geometry, lengths_in}
use Rattle.prediction.specs.declared.PlaneLengths.{PlaneLengths}
use Rattle.prediction.specs.Prediction.{chroma_block, macroblock_prediction, prediction_reply}
use Rattle.prediction.proofs.PredictionReady.{PredictionReady, prediction_ready, macroblock-done, chroma-done}
use Rattle.prediction.proofs.ChromaRange.{chroma_in-range}
use Rattle.prediction.proofs.predict_macroblock.Goals.{After-vector_of-vector, In_ok-prediction_reply}
use Rattle.prediction.proofs.predict_macroblock.Goals as goal

abbrev ReadyAt : In_ok-prediction_reply → Type 0
ReadyAt s =
    let a = s.args in
    PredictionReady a.mode a.geometry (lengths_in (lent_samples a.reference)) a.motion a.place a.rounding (lengths_in (written_samples a.out.now))

-- nothing is refused
passed : (s : In_ok-prediction_reply) → let a = s.args in
    prediction_reply a.mode a.geometry (lengths_in (lent_samples a.reference)) a.motion a.place a.rounding (lengths_in (written_samples a.out.now))
    ≡ Ok tt
passed s =
    let a = s.args in
    ap₂ (λ (n out : PlaneLengths). prediction_reply a.mode a.geometry n a.motion a.place a.rounding out)
    (sym s.plane_lengths-bytes.ensures) (sym s.room-areas.ensures)
    ∙ sym s.prediction_reply.ensures
    ∙ s.in_ok-prediction_reply.was

ready : (s : In_ok-prediction_reply) → ReadyAt s
ready s = prediction_ready _ _ _ _ _ _ _ (passed s)

abbrev start : After-vector_of-vector → In_ok-prediction_reply
start v = (goal.at.After-vector_of-vector v).In_ok-prediction_reply

-- a chroma block, from a plane and into an area that are not refused
chroma_part_lem : (v : After-vector_of-vector) (bytes area : ℕ) → reference_reply (chroma_geometry (start v).args.geometry) bytes ≡ Ok tt → area ≡ 64
    → block_reply v.chroma_geometry-chroma.result bytes v.vector_of-vector.result (square_at (corner_at 8 (start v).args.place) 8) area
    ≡ Ok tt
chroma_part_lem v bytes area e f =
    let s = start v in
    let r = (ready s).moved in
    ap₂ (λ (g : Geometry) (w : MotionVector). block_reply g bytes w (square_at (corner_at 8 s.args.place) 8) area)
    v.chroma_geometry-chroma.ensures v.vector_of-vector.ensures
    ∙ chroma-done s.args.mode _ bytes s.args.motion s.args.place area e r (chroma_in-range _ _ r.vectors) f

-- its samples
chroma_is : (v : After-vector_of-vector) (plane out : List ℕ)
    → out ≡ half_block (plane_of plane v.chroma_geometry-chroma.result) (square_at (corner_at 8 (start v).args.place) 8)
    v.vector_of-vector.result (start v).args.rounding
    → out ≡ chroma_block (start v).args.mode (plane_of plane (chroma_geometry (start v).args.geometry)) (start v).args.motion
    (start v).args.place (start v).args.rounding
chroma_is v plane out e =
    let a = (start v).args in
    e
    ∙ ap₂ (λ (g : Geometry) (w : MotionVector). half_block (plane_of plane g) (square_at (corner_at 8 a.place) 8) w a.rounding)
    v.chroma_geometry-chroma.ensures v.vector_of-vector.ensures

pub corner_at-corner-requires : goal.corner_at-corner-requires
corner_at-corner-requires c =
    let r = (ready (goal.at.corner_at-corner-requires c).In_ok-prediction_reply).moved in
    (omega arith, omega (arith, r.column), omega (arith, r.row))

pub vector_of-vector-requires : goal.vector_of-vector-requires
vector_of-vector-requires c = (ready (goal.at.vector_of-vector-requires c).In_ok-prediction_reply).moved.vectors

pub predict_ready-requires : goal.predict_ready-requires
predict_ready-requires c =
    let a = c.args in
    let r = ready (goal.at.predict_ready-requires c).In_ok-prediction_reply in
    ap (λ (x : Point). macroblock_reply a.mode a.geometry.luma (length a.reference.y.now) a.motion x a.rounding (length a.out.now.y.now))
    c.corner_at-corner.ensures
    ∙ macroblock-done _ _ _ _ _ _ _ r.mode r.planes.luma r.motions r.rounding_type r.areas.luma

pub predict_chroma-requires : goal.predict_chroma-requires
predict_chroma-requires c =
    let s = (goal.at.predict_chroma-requires c).In_ok-prediction_reply in
    chroma_part_lem (goal.at.predict_chroma-requires c).After-vector_of-vector _ _ (ready s).planes.blue (ready s).areas.blue

pub predict_chroma-requires-2 : goal.predict_chroma-requires-2
predict_chroma-requires-2 c =
    let s = (goal.at.predict_chroma-requires-2 c).In_ok-prediction_reply in
    chroma_part_lem (goal.at.predict_chroma-requires-2 c).After-vector_of-vector _ _ (ready s).planes.red (ready s).areas.red

pub returns-clause-out_after : goal.returns-clause-out_after
unfolding macroblock_prediction
returns-clause-out_after c =
    let a = c.args in
    let y =
    c.predict_ready.ensures
    ∙ ap (λ (o : Point). macroblock_luma a.mode (plane_of a.reference.y.now a.geometry.luma) a.motion o a.rounding)
    c.corner_at-corner.ensures in
    let v = (goal.at.returns-clause-out_after c).After-vector_of-vector in
    let cb = chroma_is v a.reference.cb.now _ c.predict_chroma.ensures in
    let cr = chroma_is v a.reference.cr.now _ c.predict_chroma-2.ensures in
    λ i. samples (y i) (cb i) (cr i)
