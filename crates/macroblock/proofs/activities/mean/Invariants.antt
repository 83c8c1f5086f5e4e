-- `macroblock::activities::mean` meets its contract.
use lib.ListN.{get_or}
use Rattle.basis.proofs.Sums.{Summed}
use Rattle.macroblock.proofs.activities.mean.Given as goal

abbrev pub invariant-loop-sample : goal.invariant-loop-sample
invariant-loop-sample l = Summed 255 256 (λ i. get_or l.block i 0) l.sample-index l.sum
