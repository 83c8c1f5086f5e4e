-- `coding::events::quantise_inter_residual` meets its contract.
use Rattle.coding.specs.Coding.{lent_quantising}
use Rattle.coding.proofs.Filling.{CodedSoFar}
use Rattle.coding.proofs.events.quantise_inter_residual.Given as goal

abbrev pub invariant-loop-b : goal.invariant-loop-b
invariant-loop-b l =
    CodedSoFar (lent_quantising l.by) l.residual l.initial.lasts l.initial.runs l.initial.levels l.initial.counts l.lasts l.runs l.levels l.counts l.b
