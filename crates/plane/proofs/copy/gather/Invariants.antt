-- `plane::copy::gather` meets its contract.
use mathlib.Core.Path.{◌≡◌}
use lib.ListN.{length}
use Rattle.basis.proofs.Lists.{filled}
use Rattle.plane.specs.ToldHeld.{gathered}
use Rattle.plane.proofs.copy.gather.Given as goal

abbrev pub invariant-loop-i : goal.invariant-loop-i
invariant-loop-i l =
    (length l.out ≡ length l.initial.out) × (l.out ≡ filled l.i (gathered l.row l.columns) l.initial.out)
