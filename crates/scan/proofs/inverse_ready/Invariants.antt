-- `scan::inverse_ready` meets its contract.
use Prim.Native.Nat.{◌≤◌}
use mathlib.Core.Path.{◌≡◌}
use lib.IntN.{pos}
use lib.ListN.{length, get_or}
use Rattle.basis.proofs.Lists.{filled}
use Rattle.scan.specs.Grid.{entry_at}
use Rattle.scan.proofs.inverse_ready.Given as goal

abbrev pub invariant-loop-p : goal.invariant-loop-p
invariant-loop-p l =
    (l.p ≤ 64) × (length l.out ≡ 64) × (length l.initial.out ≡ 64) × (l.out ≡ filled l.p (λ p. get_or l.levels (entry_at l.grid p) (pos 0)) l.initial.out)
