-- `fdct::line::fdct_1d_rows` meets its contract.
use Prim.Native.Nat.{ℕ, ◌≤◌}
use mathlib.Core.List.{List}
use mathlib.Core.Path.{◌≡◌}
use lib.Ieee.{Float}
use lib.ListN.{length}
use Rattle.basis.specs.Lists.{tabulate}
use Rattle.basis.proofs.Lists.{laid}
use Rattle.fdct.specs.Told.{entries, across_at}
use Rattle.fdct.proofs.line.fdct_1d_rows.Given as goal

-- row y of the pass
abbrev pub pass_row : List Float → ℕ → List Float
pass_row block y = tabulate 8 (λ u. across_at (entries block) u y)

abbrev pub invariant-loop-y : goal.invariant-loop-y
invariant-loop-y l = (l.y ≤ 8) × (length l.out ≡ 64) × (length l.initial.out ≡ 64) × (l.out ≡ laid 8 (pass_row l.block) l.y l.initial.out)
