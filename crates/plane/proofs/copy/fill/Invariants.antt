-- The places that are filled so far.
use Rattle.std.proofs.Common.{◌≡◌}
use Rattle.basis.proofs.Lists.{filled}
use Rattle.plane.proofs.copy.fill.Given as goal

abbrev pub invariant-loop-i : goal.invariant-loop-i
invariant-loop-i l = l.out ≡ filled l.i (λ _. l.sample) l.initial.out
