-- `plane::copy::gather` meets its contract.
use native.Mathlib.Omega.{arith}
use mathlib.Core.Path.{refl, sym}
use lib.ListN.{length-set}
use Rattle.basis.proofs.Lists.{filled_none, filled_set}
use Rattle.plane.proofs.copy.gather.Goals as goal

pub loop-i-init : goal.loop-i-init
loop-i-init c = (refl, sym (filled_none _ _))

pub loop-i-preserved : goal.loop-i-preserved
loop-i-preserved c =
    (simp length-set (omega arith), filled_set _ _ _ _ _ c.loop-i.invariant.1 refl (omega arith))
