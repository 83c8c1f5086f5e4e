-- `macroblock::activities::activity` meets its contract.
use Rattle.std.proofs.Common.{arith}
use Rattle.basis.proofs.Sums.{summed_none, summed_more}
use Rattle.macroblock.proofs.activities.activity.Goals as goal

pub loop-sample-init : goal.loop-sample-init
loop-sample-init c = summed_none 255 256 _

pub loop-sample-preserved : goal.loop-sample-preserved
loop-sample-preserved c =
    let byte = (c.type_inv.block c.loop-sample.sample-index).fits in
    summed_more 255 256 _ c.loop-sample.invariant (omega arith) (omega arith) (omega (arith, c.mean-middle.ensures.1))
