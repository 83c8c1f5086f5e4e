-- `plane::copy::set_columns` meets its contract.
use mathlib.Core.Path.{◌≡◌}
use lib.ListN.{length}
use Rattle.basis.proofs.Lists.{filled}
use Rattle.plane.specs.ToldHeld.{column_at}
use Rattle.plane.proofs.copy.set_columns.Given as goal

abbrev pub invariant-loop-i : goal.invariant-loop-i
invariant-loop-i l =
    (length l.columns ≡ length l.initial.columns) × (l.columns ≡ filled l.i (column_at l.width l.x) l.initial.columns)
