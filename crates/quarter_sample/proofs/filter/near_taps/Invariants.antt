-- `near_taps` meets its contract: after i turns i places are filled.
use mathlib.Core.Path.{◌≡◌}
use Rattle.basis.proofs.Lists.{filled}
use Rattle.quarter_sample.specs.ToldPasses.{near_rows}
use Rattle.quarter_sample.proofs.filter.near_taps.Given as goal

abbrev pub invariant-loop-i : goal.invariant-loop-i
invariant-loop-i l =
    l.out ≡ filled l.i (near_rows l.rc l.max l.near l.t0 l.t1 l.t2 l.t3 l.t4 l.t5 l.t6 l.t7) l.initial.out
