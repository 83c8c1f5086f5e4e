-- The columns of the filtered rows are the two steps.
use Rattle.std.proofs.Common.{◌≡◌, ◌≤◌, ◌*◌, ◌+◌, ◌/◌, ◌∙◌, length, length-take-le, arith}
use Rattle.quarter_sample.proofs.Buffers.{rounded_up, still_filtered}
use Rattle.quarter_sample.proofs.Blocks.{both}
use Rattle.quarter_sample.proofs.passes.both_passes.Goals as goal

pub returns : goal.returns
returns c =
    let a = c.args in
    let n = rounded_up a.w (a.h + 1) c.requires.0.width_high (omega (arith, c.requires.0.height_high)) in
    let long : length c.filter_rows.new.wide ≡ ((a.h + 1) * (a.w + 7) + 15) / 16 * 16 = c.filter_rows.auto.wide ∙ length-take-le _ _ n.1 in
    let fits : (a.h + 1) * (a.w + 7) ≤ length c.filter_rows.new.wide = omega (arith, n.0) in
    c.column_pass.ensures
    ∙ both a.rc a.max a.w a.h a.block.now a.fx a.fy _ c.requires.0.height_low
    (still_filtered a.w (a.h + 1) a.rc a.max a.fx a.block.now _ _ fits c.filter_rows.ensures)
