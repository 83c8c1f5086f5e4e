-- Row b as far as the loop has come.
use Rattle.std.proofs.Common.{◌≡◌}
use Rattle.basis.proofs.Lists.{filled}
use Rattle.half_sample.specs.ToldRows.{right_of}
use Rattle.half_sample.proofs.rows.row_b.Given as goal

abbrev pub invariant-loop-i : goal.invariant-loop-i
invariant-loop-i l = l.out ≡ filled l.i (right_of l.top l.rc) l.initial.out
