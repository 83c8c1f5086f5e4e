-- `coding::residual::six_residuals` meets its contract.
use Prim.Native.Nat.{ℕ, ◌≤◌, ◌<◌}
use mathlib.Core.Path.{◌≡◌}
use lib.ListN.{length}
use Rattle.basis.proofs.Lists.{laid}
use Rattle.plane.specs.Samples.{lent_samples}
use Rattle.coding.specs.Residual.{ResidualRange}
use Rattle.coding.proofs.SixBlocks.{residual_at}
use Rattle.coding.proofs.residual.six_residuals.Given as goal

abbrev pub invariant-loop-b : goal.invariant-loop-b
invariant-loop-b l =
    let r = residual_at (lent_samples l.source) (lent_samples l.prediction) in
    (l.b ≤ 6) × (length l.initial.out ≡ 384) × (length l.out ≡ 384) × (l.out ≡ laid 64 r l.b l.initial.out) × ((k : ℕ) → k < l.b → ResidualRange 64 (r k))
