-- `prediction::blocks::weave` meets its contract.
use Prim.Native.Nat.{ℕ, ◌+◌, ◌≤◌}
use mathlib.Core.List.{List}
use mathlib.Core.Path.{◌≡◌}
use lib.ListN.{length, get_or}
use Rattle.basis.specs.Lists.{tabulate}
use Rattle.basis.proofs.Lists.{laid}
use Rattle.prediction.specs.ToldFour.{part_at}
use Rattle.prediction.proofs.blocks.weave.Given as goal

-- part n of the macroblock's rows
abbrev pub part_of : List ℕ → ℕ → List ℕ
part_of blocks n = tabulate 8 (λ i. get_or blocks (part_at n + i) 0)

abbrev pub invariant-loop-n : goal.invariant-loop-n
invariant-loop-n l =
    (l.n ≤ 32) × (length l.out ≡ length l.initial.out) × (l.out ≡ laid 8 (part_of l.blocks) l.n l.initial.out)
