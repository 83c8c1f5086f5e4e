-- Each turn lays one row of the block.
use Rattle.std.proofs.Common.{ℕ, ◌*◌, sym, ap, ◌∙◌, arith}
use mir.Syntax.{w32}
use mir.Val.{to_z, of_z}
use Rattle.basis.proofs.Bounds.{row_before}
use Rattle.basis.proofs.Slices.{part_length}
use Rattle.basis.proofs.Lists.{length-tabulate, laid_none, laid_put}
use Rattle.plane.specs.Plane.{geometry_of, plane_of}
use Rattle.half_sample.proofs.rows.plane_rows.Invariants.{block_row}
use Rattle.half_sample.proofs.rows.plane_rows.Goals as goal

pub loop-j-init : goal.loop-j-init
loop-j-init c = sym (laid_none _ _ (λ j. length-tabulate _ _) _)

pub loop-j-preserved : goal.loop-j-preserved
loop-j-preserved c =
    let a = c.args in
    let wide = part_length c.loop-j.out (c.loop-j.j * a.w) a.w (omega (arith, row_before a.w c.loop-j-test.true)) in
    laid_put _ _ (λ j. length-tabulate _ _) c.loop-j.j a.out.now c.loop-j.out _ c.loop-j.invariant
    (c.plane_row.ensures
    ∙ ap (λ (k : ℕ). block_row (plane_of a.samples.now (geometry_of a.width a.height a.stride)) a.column (to_z w32 (of_z w32 a.y)) a.halves k c.loop-j.j) wide)
