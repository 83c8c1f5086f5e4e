-- `plane::straight::copy_eights` meets its contract.
use Prim.Native.Nat.{ℕ, ◌+◌, ◌*◌}
use native.Mathlib.Omega.{arith}
use mathlib.Core.Path.{◌≡◌, ap, ◌∙◌}
use Rattle.plane.proofs.Front.{fronted, front_more}
use Rattle.plane.proofs.straight.copy_eights.Goals as goal

pub loop-k-preserved : goal.loop-k-preserved
loop-k-preserved c =
    let s = c.args in
    let from = s.from.now in
    let next : c.loop-k.k * 8 + 8 ≡ (c.loop-k.k + 1) * 8 = omega arith in (
      omega arith,
      front_more from s.out.now c.loop-k.out _ (c.loop-k.k * 8) 8 (omega arith) c.loop-k.invariant.1 c.copy_held.ensures
          ∙ ap (λ (n : ℕ). fronted n from s.out.now) next,
    )
