-- Mirrored rows, filtered in one long row with taps a row apart, are the columns at the fraction.
use Rattle.std.proofs.Common.{◌+◌, sym, refl, arith}
use Rattle.quarter_sample.proofs.Buffers.{columned}
use Rattle.quarter_sample.proofs.passes.column_pass.Goals.{in-16, in-8, in_default}
use Rattle.quarter_sample.proofs.passes.column_pass.Goals as goal

pub returns : goal.returns
returns g c =
    let a = c.args in
    let o = c.filter_spaced.ensures in
    let n = g.row.OTHERS in
    let law = columned a.rc a.max a.fraction a.w a.h (a.w + n) a.src.now in
    let fits = c.requires.0.out_fits in
    elim c.match-w.branch [
      | in-16 w ↦ law _ (16 + n) 16 _ _ _ _ (omega (arith, w.in-16.is)) (sym w.in-16.is) w.middle-is w.mirror_rows.ensures fits o
      | in-8 w ↦ law _ (8 + n) 8 _ _ _ _ (omega (arith, w.in-8.is)) (sym w.in-8.is) w.middle-is w.mirror_rows-in-8.ensures fits o
      | in_default w ↦ law _ (a.w + n) a.w _ _ _ _ refl refl w.middle-is w.mirror_rows-in_default.ensures fits o
    ]
