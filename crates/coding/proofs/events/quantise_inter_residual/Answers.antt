-- `coding::events::quantise_inter_residual` meets its contract.
use native.Mathlib.Omega.{arith}
use mathlib.Core.Path.{refl}
use Rattle.coding.proofs.Filling.{coded_none, coded_more, coded_end}
use Rattle.coding.proofs.events.quantise_inter_residual.Goals as goal

pub loop-b-init : goal.loop-b-init
loop-b-init c = coded_none _ _ _ _ _ _ c.requires.lasts_long c.requires.runs_long c.requires.levels_long refl

pub loop-b-preserved : goal.loop-b-preserved
loop-b-preserved c =
    let e = c.quantise_inter_block.ensures in
    coded_more _ _ _ _ _ _ _ _ _ _ _ c.loop-b.invariant _ _ _ _ (omega arith) e.value e.out_after

pub returns-clause-value : goal.returns-clause-value
returns-clause-value c = (coded_end _ _ _ _ _ _ _ _ _ _ _ c.loop-b.invariant (omega arith)).0

pub returns-clause-out_after : goal.returns-clause-out_after
returns-clause-out_after c = (coded_end _ _ _ _ _ _ _ _ _ _ _ c.loop-b.invariant (omega arith)).1
