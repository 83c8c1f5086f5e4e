-- `fdct::line::fdct_1d_columns` meets its contract.
use Prim.Native.Nat.{ℕ, ◌≤◌}
use mathlib.Core.List.{List}
use mathlib.Core.Path.{◌≡◌}
use lib.Ieee.{Float}
use lib.ListN.{length}
use Rattle.basis.specs.Lists.{tabulate}
use Rattle.basis.proofs.Lists.{laid}
use Rattle.fdct.specs.Told.{entries, passed_at}
use Rattle.fdct.proofs.line.fdct_1d_columns.Given as goal

-- row u of the pass
abbrev pub pass_row : List Float → ℕ → List Float
pass_row block u = tabulate 8 (λ j. passed_at (entries block) j u)

abbrev pub invariant-loop-u : goal.invariant-loop-u
invariant-loop-u l = (l.u ≤ 8) × (length l.out ≡ 64) × (length l.initial.out ≡ 64) × (l.out ≡ laid 8 (pass_row l.block) l.u l.initial.out)
