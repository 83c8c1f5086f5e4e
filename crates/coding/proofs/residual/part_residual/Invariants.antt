-- `coding::residual::part_residual` meets its contract.
use Rattle.coding.specs.Told.{difference_at}
use Rattle.coding.proofs.Differences.{ResidualSoFar}
use Rattle.coding.proofs.residual.part_residual.Given as goal

abbrev pub invariant-loop-k : goal.invariant-loop-k
invariant-loop-k g l = ResidualSoFar (difference_at g.row.STRIDE l.from l.source l.prediction) l.initial.out l.out l.k
