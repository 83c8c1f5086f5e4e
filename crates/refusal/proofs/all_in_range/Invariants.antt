-- `refusal::all_in_range` meets its contract.
use Rattle.std.proofs.Common.{◌≡◌, ◌&&◌, drop}
use Rattle.refusal.specs.Test.{all_in_range}
use Rattle.refusal.proofs.all_in_range.Given as goal

-- what is found so far, and of the rest
abbrev pub invariant-loop-x : goal.invariant-loop-x
invariant-loop-x l = all_in_range l.low l.high l.xs ≡ (l.good && all_in_range l.low l.high (drop l.x-index l.xs))
