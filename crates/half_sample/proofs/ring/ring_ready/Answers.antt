-- The lower of two rows is the line from its second row on.
use Rattle.std.proofs.Common.{◌∙◌}
use Rattle.half_sample.proofs.Grids.{ring_is, below_grid, between_grid}
use Rattle.half_sample.proofs.ring.ring_ready.Goals as goal

pub returns-clause-below_after : goal.returns-clause-below_after
returns-clause-below_after c =
    let f = ring_is _ _ _ _ _ c.requires in
    rw c.from-rc.ensures at c.row_c.ensures ∙ below_grid c.args.patch.now c.args.stride c.args.rounding _ _ f.1 f.0

pub returns-clause-between_after : goal.returns-clause-between_after
returns-clause-between_after c =
    let f = ring_is _ _ _ _ _ c.requires in
    rw c.from-rc.ensures at c.row_d.ensures ∙ between_grid c.args.patch.now c.args.stride c.args.rounding _ _ f.2 f.0
