-- Each turn lays one extended row.
use Rattle.std.proofs.Common.{◌+◌, ◌*◌, sym, ◌∙◌, arith}
use Rattle.basis.proofs.Bounds.{row_before}
use Rattle.basis.proofs.Lists.{length-tabulate, laid_none, laid_put}
use Rattle.basis.proofs.Slices.{part_length}
use Rattle.quarter_sample.proofs.Buffers.{extended_row}
use Rattle.quarter_sample.proofs.passes.extend_rows.Goals as goal

pub loop-j-init : goal.loop-j-init
loop-j-init c = sym (laid_none _ _ (λ j. length-tabulate _ _) _)

pub loop-j-preserved : goal.loop-j-preserved
loop-j-preserved c =
    let a = c.args in
    let n = a.n in
    let l = c.loop-j in
    laid_put _ _ (λ j. length-tabulate _ _) l.j a.ext.now l.ext _ l.invariant
    (c.extend_row.ensures
    ∙ extended_row a.block.now _ n l.j _ c.requires.n_low
    (part_length l.ext (l.j * (n + 6)) (n + 6) (omega (arith, row_before (n + 6) c.loop-j-test.true, c.requires.fits))) c.part.ensures.samples)
