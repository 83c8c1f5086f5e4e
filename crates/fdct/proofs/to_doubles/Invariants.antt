-- `fdct::to_doubles` meets its contract.
use Prim.Native.Nat.{◌≤◌}
use mathlib.Core.Path.{◌≡◌}
use lib.ListN.{length}
use Rattle.basis.proofs.Lists.{filled}
use Rattle.fdct.specs.Told.{sample_at}
use Rattle.fdct.proofs.to_doubles.Given as goal

abbrev pub invariant-loop-k : goal.invariant-loop-k
invariant-loop-k l =
    (l.k ≤ 64) × (length l.block ≡ 64) × (length l.initial.block ≡ 64) × (l.block ≡ filled l.k (sample_at l.residual) l.initial.block)
