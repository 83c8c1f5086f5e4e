-- `search::sub::ring` meets its contract.
use Prim.Native.Nat.{ℕ, ◌<◌}
use native.Mathlib.Omega.{arith}
use mathlib.Core.List.{foldl}
use mathlib.Core.Path.{◌≡◌, refl, sym, subst, ap, ◌∙◌}
use Rattle.basis.specs.Lists.{rows}
use Rattle.record.specs.declared.MotionVector.{MotionVector}
use Rattle.full_search.specs.Costs.{consider}
use Rattle.full_search.proofs.Kept.{pieces_more}
use Rattle.search.specs.Sub.{ring_at, ring}
use Rattle.search.proofs.Rings.{ring_pass, ring_turn}
use Rattle.search.proofs.sub.ring.Goals.{then-n-ne4, else-n-ne4}
use Rattle.search.proofs.sub.ring.Goals as goal

pub loop-n-init : goal.loop-n-init
unfolding rows
loop-n-init g c = (omega arith, λ sum s. refl)

pub loop-n-preserved : goal.loop-n-preserved
loop-n-preserved g c =
    let a = c.args in
    let n = c.loop-n.n in
    let centre = a.best.vector in
    let place = ring_at a.fcode a.step centre in (
      omega arith,
      λ sum s.
          elim c.if-n-ne4.branch [
            | then-n-ne4 w ↦
                let p = subst (λ (v : MotionVector). goal.F-post g a.cost n v w.cost.result) w.neighbour-v.ensures w.cost.ensures in
                let h : n < 9 = omega arith in
                let e = s.each n w.cost.result h w.if-n-ne4.true p in
                w.b-is
                ∙ ring_turn sum a.fcode a.step centre n c.loop-n.b w.consider-b.result w.neighbour-v.result w.cost.result w.if-n-ne4.true
                w.neighbour-v.ensures (e ∙ ap sum (sym w.neighbour-v.ensures)) w.consider-b.ensures
            | else-n-ne4 w ↦
                let e : n ≡ 4 = omega arith in
                w.b-is ∙ ring_pass sum a.fcode a.step centre n c.loop-n.b e
          ]
          ∙ pieces_more sum a.best c.loop-n.b place n (c.loop-n.invariant.1 sum s) refl,
    )

pub returns : goal.returns
unfolding ring
returns g c =
    let a = c.args in
    let e : c.loop-n.n ≡ 9 = omega arith in
    record {
      kept =
          λ sum s.
          c.loop-n.invariant.1 sum s
          ∙ ap (λ (n : ℕ). foldl (consider sum) a.best (rows n (ring_at a.fcode a.step a.best.vector))) e;
    }
