-- `plane::straight::copy_eights` meets its contract.
use Prim.Native.Nat.{◌*◌}
use mathlib.Core.Path.{◌≡◌}
use lib.ListN.{length}
use Rattle.plane.proofs.Front.{fronted}
use Rattle.plane.proofs.straight.copy_eights.Given as goal

abbrev pub invariant-loop-k : goal.invariant-loop-k
invariant-loop-k l =
    (length l.out ≡ length l.initial.out) × (l.out ≡ fronted (l.k * 8) l.from l.initial.out)
