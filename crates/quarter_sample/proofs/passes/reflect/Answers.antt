-- One reflection leads inside the row.
use Rattle.std.proofs.Common.{◌+◌, length, arith}
use Rattle.quarter_sample.proofs.Reflection.{mirror-below}
use Rattle.quarter_sample.proofs.passes.reflect.Goals as goal

pub bounds-row-at : goal.bounds-row-at
bounds-row-at c =
    let a = c.args in
    omega (arith, c.mirror_index-at.ensures, mirror-below (length a.row.now) (a.first + c.loop-k.k) (omega arith) (omega arith))
