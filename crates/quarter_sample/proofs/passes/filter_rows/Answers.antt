-- The extended rows, filtered in one long row, have the rows at the fraction.
use Rattle.std.proofs.Common.{◌+◌, refl, arith}
use Rattle.quarter_sample.proofs.Buffers.{filtered}
use Rattle.quarter_sample.proofs.passes.filter_rows.Goals.{in-16, in-8, in_default}
use Rattle.quarter_sample.proofs.passes.filter_rows.Goals as goal

pub returns : goal.returns
returns c =
    let a = c.args in
    let o = c.filter_spaced.ensures in
    let law = filtered a.rc a.max a.fraction a.w a.rows a.block.now in
    elim c.match-w.branch [
      | in-16 w ↦ law _ 17 _ _ _ _ (omega (arith, w.in-16.is)) w.ext-is w.extend_rows.ensures c.requires.reaches o
      | in-8 w ↦ law _ 9 _ _ _ _ (omega (arith, w.in-8.is)) w.ext-is w.extend_rows-in-8.ensures c.requires.reaches o
      | in_default w ↦ law _ (a.w + 1) _ _ _ _ refl w.ext-is w.extend_rows-in_default.ensures c.requires.reaches o
    ]
