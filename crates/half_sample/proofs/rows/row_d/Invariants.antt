-- Row d as far as the loop has come.
use Rattle.std.proofs.Common.{◌≡◌}
use Rattle.basis.proofs.Lists.{filled}
use Rattle.half_sample.specs.ToldRows.{between_four}
use Rattle.half_sample.proofs.rows.row_d.Given as goal

abbrev pub invariant-loop-i : goal.invariant-loop-i
invariant-loop-i l = l.out ≡ filled l.i (between_four l.top l.low l.rc) l.initial.out
