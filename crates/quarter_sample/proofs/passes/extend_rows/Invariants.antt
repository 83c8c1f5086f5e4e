-- `extend_rows` meets its contract: after j turns j rows are laid.
use Prim.Native.Nat.{◌+◌}
use mathlib.Core.Path.{◌≡◌}
use lib.IntN.{pos, ◌-ℤ◌}
use Rattle.basis.specs.Lists.{tabulate}
use Rattle.basis.proofs.Lists.{laid}
use Rattle.quarter_sample.specs.ToldPasses.{row_line}
use Rattle.quarter_sample.proofs.passes.extend_rows.Given as goal

abbrev pub invariant-loop-j : goal.invariant-loop-j
invariant-loop-j l =
    l.ext ≡ laid (l.n + 6) (λ j. tabulate (l.n + 6) (λ u. row_line l.block l.n j (pos u -ℤ pos 3))) l.j l.initial.ext
