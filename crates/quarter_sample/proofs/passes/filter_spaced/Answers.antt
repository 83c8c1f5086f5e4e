-- The eight parts are the taps of the long row.
use Rattle.std.proofs.Common.{◌∙◌, length}
use Rattle.quarter_sample.proofs.Buffers.{spaced}
use Rattle.quarter_sample.proofs.passes.filter_spaced.Goals as goal

pub returns : goal.returns
returns c =
    let a = c.args in
    c.filter_taps.ensures
    ∙ spaced a.rc a.max a.fraction (length a.out.now) a.d a.src.now _ _ _ _ _ _ _ _
    c.part.ensures.samples c.part-2.ensures.samples c.part-3.ensures.samples c.part-4.ensures.samples
    c.part-5.ensures.samples c.part-6.ensures.samples c.part-7.ensures.samples c.part-8.ensures.samples
