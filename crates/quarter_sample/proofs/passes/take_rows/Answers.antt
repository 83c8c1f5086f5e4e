-- Each turn lays one row.
use Rattle.std.proofs.Common.{sym, ◌∙◌}
use Rattle.basis.proofs.Lists.{length-tabulate, laid_none, laid_put}
use Rattle.quarter_sample.proofs.passes.take_rows.Goals as goal

pub loop-j-init : goal.loop-j-init
loop-j-init c = sym (laid_none _ _ (λ j. length-tabulate _ _) _)

pub loop-j-preserved : goal.loop-j-preserved
loop-j-preserved c =
    laid_put _ _ (λ j. length-tabulate _ _) c.loop-j.j c.args.out.now c.loop-j.out _ c.loop-j.invariant (c.copy_straight.ensures ∙ c.part.ensures.samples)
