-- `stored::read_into` meets its contract.
use Rattle.std.proofs.Common.{refl, sym, arith}
use Rattle.basis.proofs.Lists.{filled_none, filled_set}
use Rattle.stored.proofs.read_into.Goals as goal

pub loop-i-init : goal.loop-i-init
loop-i-init g c = (omega arith, refl, sym (filled_none _ _))

pub loop-i-preserved : goal.loop-i-preserved
loop-i-preserved g c = (omega arith, refl, filled_set _ _ _ _ _ c.loop-i.invariant.2 c.element.ensures (omega arith))
