-- `take_rows` meets its contract: after j turns j rows are laid.
use Prim.Native.Nat.{◌+◌, ◌*◌}
use mathlib.Core.Path.{◌≡◌}
use lib.ListN.{get_or}
use Rattle.basis.specs.Lists.{tabulate}
use Rattle.basis.proofs.Lists.{laid}
use Rattle.quarter_sample.proofs.passes.take_rows.Given as goal

abbrev pub invariant-loop-j : goal.invariant-loop-j
invariant-loop-j l =
    l.out ≡ laid l.w (λ j. tabulate l.w (λ i. get_or l.src (j * l.stride + i) 0)) l.j l.initial.out
