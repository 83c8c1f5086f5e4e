-- `full_search::rows::whole_row` meets its contract.
use Prim.Native.Nat.{◌*◌}
use native.Mathlib.Omega.{arith}
use mathlib.Core.List.{List, [], ◌∷◌}
use mathlib.Core.Path.{◌≡◌, refl, sym, ap, ◌∙◌, subst}
use Rattle.record.specs.declared.MotionVector.{MotionVector}
use Rattle.full_search.specs.Places.{listed}
use Rattle.full_search.specs.ToldPatch.{lines_right, KeptOn}
use Rattle.full_search.proofs.OnPatches.{row_none, row_more, row_all}
use Rattle.full_search.proofs.rows.whole_row.Goals as goal

pub loop-k-init : goal.loop-k-init
loop-k-init c =
    let s = c.args in
    (omega arith, refl, λ discount. row_none 16 s.source.now s.patch.now s.at s.row discount s.best)

pub loop-k-preserved : goal.loop-k-preserved
loop-k-preserved c =
    let a = c.args in
    let k = c.loop-k.k in
    let place = ap (listed a.row.inner a.row.outer) c.right-d.ensures ∙ c.requires.1.all k c.loop-k-test.true ∙ sym (alone c.right-d.ensures) in (
      omega (arith, c.loop-k-test.true),
      refl,
      λ discount.
          row_more 16 a.source.now a.patch.now a.at a.row discount a.best k c.right-d.result c.loop-k.b
          c.other_place-b.result c.loop-k-test.true c.right-d.ensures (c.loop-k.invariant.2 discount)
          (subst (λ (v : List MotionVector). KeptOn 16 a.source.now a.patch.now (lines_right a.at (a.row.step * k)) 16 c.right-d.result
          discount v c.loop-k.b c.other_place-b.result) (sym place) (c.other_place-b.ensures discount)),
    )
  where
    alone : {v u : MotionVector} → v ≡ u → v ∷ [] ≡ u ∷ []
    alone e = ap (λ (v : MotionVector). v ∷ []) e

pub returns : goal.returns
returns c =
    let l = c.loop-k in
    let s = c.args in
    λ discount. row_all 16 s.source.now s.patch.now s.at s.row discount s.best l.k l.b
    (omega (arith, c.loop-k-test.false, l.invariant.0)) (l.invariant.2 discount)
