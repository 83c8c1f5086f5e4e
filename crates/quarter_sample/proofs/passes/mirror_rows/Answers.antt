-- Each turn lays the row that its index reads.
use Rattle.std.proofs.Common.{ℕ, ◌+◌, ◌*◌, ◌<◌, ◌≤◌, ap, sym, ◌∙◌, get_or, arith}
use Rattle.basis.specs.Lists.{tabulate}
use Rattle.basis.proofs.Bounds.{row_before}
use Rattle.basis.proofs.Lists.{length-tabulate, laid_none, laid_put}
use Rattle.quarter_sample.specs.ToldPasses.{column_line}
use Rattle.quarter_sample.proofs.Reflection.{mirror-below}
use Rattle.quarter_sample.proofs.passes.mirror_rows.Goals.{After-mirror_index}
use Rattle.quarter_sample.proofs.passes.mirror_rows.Goals as goal

pub loop-u-init : goal.loop-u-init
loop-u-init c = sym (laid_none _ _ (λ j. length-tabulate _ _) _)

-- the row that is read lies within the source
inside : (c : After-mirror_index) → let a = c.args in c.mirror_index.result * a.stride + a.stride ≤ a.size * a.stride
inside c =
    let below = mirror-below c.args.size c.loop-u.u c.requires.size_low c.loop-u-test.true in
    let k : c.mirror_index.result < c.args.size = omega (arith, c.mirror_index.ensures, below) in
    row_before c.args.stride k

pub overflow_mul-at : goal.overflow_mul-at
overflow_mul-at c = omega (arith, inside (goal.at.overflow_mul-at c).After-mirror_index, c.requires.inside)

pub part-requires : goal.part-requires
part-requires c = omega (arith, inside (goal.at.part-requires c).After-mirror_index, c.requires.narrow, c.requires.inside)

pub loop-u-preserved : goal.loop-u-preserved
unfolding column_line
loop-u-preserved c =
    let a = c.args in
    laid_put _ _ (λ j. length-tabulate _ _) c.loop-u.u a.out.now c.loop-u.out _ c.loop-u.invariant
    (c.copy_straight.ensures ∙ c.part.ensures.samples ∙ ap (λ (k : ℕ). tabulate a.w (λ i. get_or a.src.now (k * a.stride + i) 0)) c.mirror_index.ensures)
