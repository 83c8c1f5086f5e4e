-- `macroblock::activities::activity` meets its contract.
use lib.ListN.{get_or}
use Rattle.basis.specs.Sums.{abs_diff}
use Rattle.basis.proofs.Sums.{Summed}
use Rattle.macroblock.proofs.activities.activity.Given as goal

abbrev pub invariant-loop-sample : goal.invariant-loop-sample
invariant-loop-sample l = Summed 255 256 (λ i. abs_diff (get_or l.block i 0) l.middle) l.sample-index l.sum
