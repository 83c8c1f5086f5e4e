-- `mirror_rows` meets its contract: after u turns u rows are laid.
use mathlib.Core.Path.{◌≡◌}
use lib.IntN.{pos, ◌-ℤ◌}
use Rattle.basis.specs.Lists.{tabulate}
use Rattle.basis.proofs.Lists.{laid}
use Rattle.quarter_sample.specs.ToldPasses.{column_line}
use Rattle.quarter_sample.proofs.passes.mirror_rows.Given as goal

abbrev pub invariant-loop-u : goal.invariant-loop-u
invariant-loop-u l =
    l.out ≡ laid l.w (λ u. tabulate l.w (λ i. column_line l.src l.stride l.size i (pos u -ℤ pos 3))) l.u l.initial.out
