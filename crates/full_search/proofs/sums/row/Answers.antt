-- `full_search::sums::row` meets its contract.
use native.Mathlib.Omega.{arith}
use Rattle.basis.proofs.Sums.{summed_none, summed_more}
use Rattle.full_search.proofs.sums.row.Goals as goal

pub loop-i-init : goal.loop-i-init
loop-i-init g c = summed_none _ _ _

pub loop-i-preserved : goal.loop-i-preserved
loop-i-preserved g c = summed_more _ _ _ c.loop-i.invariant (omega arith) c.difference-sum.ensures.0 c.difference-sum.ensures.1
