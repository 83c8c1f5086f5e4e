-- `fdct::line::weighted_sums` meets its contract.
use Prim.Native.Nat.{◌≤◌}
use mathlib.Core.Path.{◌≡◌}
use Rattle.fdct.proofs.Lines.{sums_of}
use Rattle.fdct.proofs.line.weighted_sums.Given as goal

abbrev pub invariant-loop-x : goal.invariant-loop-x
invariant-loop-x l = (l.x ≤ 8) × (l.sums ≡ sums_of l.table l.block l.u l.x)
