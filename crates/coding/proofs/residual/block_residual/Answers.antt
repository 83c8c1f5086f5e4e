-- `coding::residual::block_residual` meets its contract.
use Rattle.std.proofs.Common.{◌∙◌}
use Rattle.plane.specs.Samples.{lent_samples}
use Rattle.coding.proofs.SixBlocks.{luma_part}
use Rattle.coding.proofs.residual.block_residual.Goals as goal

pub returns-then-b-lt4-clause-out_after : goal.returns-then-b-lt4-clause-out_after
returns-then-b-lt4-clause-out_after c =
    c.part_residual.ensures.out_after ∙ luma_part (lent_samples c.args.source) (lent_samples c.args.prediction) c.args.b c.if-b-lt4.true
