-- `prediction::predict_ready` meets its contract.
use Prim.Native.Nat.{ℕ, ◌+◌}
use mathlib.Core.List.{List, [], ◌∷◌}
use mathlib.Core.Path.{◌≡◌, refl, sym, ap, ◌∙◌, subst}
use lib.ListN.{length, get_or}
use Rattle.basis.specs.Lists.{raster}
use Rattle.refusal.specs.Reply.{Reply}
use Rattle.refusal.specs.Reply.{done}
use Rattle.plane.specs.Plane.{plane_of}
use Rattle.plane.specs.Corner.{square_at}
use Rattle.prediction.specs.declared.PvopMbMotion.{PvopMbMotion}
use Rattle.prediction.specs.declared.PvopMbMotion.TheVariants.{OneMv, FourMv}
use Rattle.prediction.specs.Luma.{predicted_block}
use Rattle.prediction.specs.Macroblock.{eight_sample, macroblock_luma}
use Rattle.prediction.specs.ToldFour.{part_at}
use Rattle.prediction.proofs.Ready.{MacroblockReady, luma_done, macroblock_ready, four_ready}
use Rattle.prediction.proofs.Weave.{woven}
use Rattle.prediction.proofs.predict_ready.Goals.{Start}
use Rattle.prediction.proofs.predict_ready.Goals as goal

abbrev ReadyFor : Start → PvopMbMotion → Type 0
ReadyFor s m = let a = s.args in MacroblockReady a.mode a.geometry (length a.samples.now) m a.corner (length a.out.now)

ready : (s : Start) (m : PvopMbMotion) → s.args.motion ≡ m → ReadyFor s m
ready s m e = subst (ReadyFor s) e (macroblock_ready _ _ _ _ _ _ _ s.requires)

abbrev luma_for : Start → PvopMbMotion → List ℕ
luma_for s m = let a = s.args in macroblock_luma a.mode (plane_of a.samples.now a.geometry) m a.corner a.rounding

pub predict_four-requires : goal.predict_four-requires
predict_four-requires c =
    let m = c.in-FourMv in
    (four_ready _ _ _ _ _ _ _ _ _ (ready (goal.at.predict_four-requires c).Start (FourMv m.a m.b m.c m.d) m.is), refl)

pub weave-requires : goal.weave-requires
weave-requires c =
    let m = c.in-FourMv in
    (c.predict_four.auto.out, (ready (goal.at.weave-requires c).Start (FourMv m.a m.b m.c m.d) m.is).fits)

pub returns-in-OneMv : goal.returns-in-OneMv
unfolding predicted_block macroblock_luma
returns-in-OneMv c =
    let a = c.args in
    let v = c.in-OneMv.v in
    let site = square_at a.corner 16 in
    let r = ready (goal.at.returns-in-OneMv c).Start (OneMv v) c.in-OneMv.is in
    c.interpolate_block.ensures.out_after
    ∙ ap (λ (x : Reply). done x (predicted_block a.mode (plane_of a.samples.now a.geometry) site a.rounding v) a.out.now)
    (c.interpolate_block.ensures.value
    ∙ luma_done a.mode a.geometry (length a.samples.now) v site (length a.out.now) r.mode r.reference r.motions r.fits refl refl)
    ∙ ap (luma_for (goal.at.returns-in-OneMv c).Start) (sym c.in-OneMv.is)

pub returns-in-FourMv : goal.returns-in-FourMv
unfolding predicted_block macroblock_luma
returns-in-FourMv c =
    let a = c.args in
    let m = c.in-FourMv in
    let vs = m.a ∷ m.b ∷ m.c ∷ m.d ∷ [] in
    c.weave.ensures
    ∙ ap (λ (l : List ℕ). raster 8 32 (λ i n. get_or l (part_at n + i) 0)) c.predict_four.ensures
    ∙ woven (eight_sample a.mode (plane_of a.samples.now a.geometry) vs a.corner a.rounding)
    ∙ ap (luma_for (goal.at.returns-in-FourMv c).Start) (sym m.is)
