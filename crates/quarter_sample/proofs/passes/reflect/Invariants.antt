-- `reflect` meets its contract: after k turns k places are filled.
use Prim.Native.Nat.{◌+◌}
use mathlib.Core.Path.{◌≡◌}
use Rattle.basis.proofs.Lists.{filled}
use Rattle.quarter_sample.specs.ToldPasses.{reflected}
use Rattle.quarter_sample.proofs.passes.reflect.Given as goal

abbrev pub invariant-loop-k : goal.invariant-loop-k
invariant-loop-k l =
    l.out ≡ filled l.k (λ i. reflected l.row (l.first + i)) l.initial.out
