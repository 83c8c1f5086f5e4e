-- `prediction::blocks::weave` meets its contract.
use native.Mathlib.Omega.{arith}
use mathlib.Core.Path.{refl, sym}
use Rattle.basis.proofs.Lists.{length-tabulate, laid_none, laid_put}
use Rattle.prediction.proofs.blocks.weave.Goals as goal

pub loop-n-init : goal.loop-n-init
loop-n-init c = (omega arith, refl, sym (laid_none _ _ (λ j. length-tabulate _ _) _))

pub loop-n-preserved : goal.loop-n-preserved
loop-n-preserved c =
    let a = c.args in (
      omega arith,
      omega arith,
      laid_put _ _ (λ j. length-tabulate _ _) c.loop-n.n a.out.now c.loop-n.out _ c.loop-n.invariant.2 c.weave_part.ensures,
    )
