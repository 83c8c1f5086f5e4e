-- `quantise::no_zero` meets its contract.
use Rattle.std.proofs.Common.{◌≡◌, ◌&&◌, drop}
use Rattle.quantise.specs.Block.{no_zero}
use Rattle.quantise.proofs.no_zero.Given as goal

-- what is found so far, and of the rest
abbrev pub invariant-loop-w : goal.invariant-loop-w
invariant-loop-w l = no_zero l.weights ≡ (l.good && no_zero (drop l.w-index l.weights))
