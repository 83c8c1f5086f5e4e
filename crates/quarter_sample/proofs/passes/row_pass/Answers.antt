-- The rows are taken out of the long row.
use Rattle.std.proofs.Common.{◌≡◌, ◌≤◌, ◌*◌, ◌+◌, ◌/◌, ◌∙◌, length, length-take-le, arith}
use Rattle.quarter_sample.proofs.Buffers.{rounded_up, taken}
use Rattle.quarter_sample.proofs.passes.row_pass.Goals as goal

pub returns : goal.returns
returns c =
    let a = c.args in
    let n = rounded_up a.w a.h c.requires.width_high (omega (arith, c.requires.height_high)) in
    let long : length c.filter_rows.new.wide ≡ (a.h * (a.w + 7) + 15) / 16 * 16 = c.filter_rows.auto.wide ∙ length-take-le _ _ n.1 in
    let fits : a.h * (a.w + 7) ≤ length c.filter_rows.new.wide = omega (arith, n.0) in
    c.copy_rows.ensures ∙ taken a.w a.h a.rc a.max a.fraction a.block.now _ _ fits c.filter_rows.ensures
