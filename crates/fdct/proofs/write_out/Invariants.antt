-- `fdct::write_out` meets its contract.
use Prim.Native.Nat.{◌≤◌}
use mathlib.Core.Path.{◌≡◌}
use lib.ListN.{length}
use Rattle.basis.proofs.Lists.{filled}
use Rattle.fdct.specs.Told.{entries}
use Rattle.fdct.specs.Rounding.{coefficient_of}
use Rattle.fdct.proofs.write_out.Given as goal

abbrev pub invariant-loop-k : goal.invariant-loop-k
invariant-loop-k l = (l.k ≤ 64) × (length l.out ≡ 64) × (length l.initial.out ≡ 64) × (l.out ≡ filled l.k (λ k. coefficient_of (entries l.block k)) l.initial.out)
