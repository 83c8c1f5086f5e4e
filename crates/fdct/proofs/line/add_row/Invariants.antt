-- `fdct::line::add_row` meets its contract.
use Prim.Native.Nat.{ℕ, ◌+◌, ◌*◌, ◌≤◌}
use mathlib.Core.List.{List}
use mathlib.Core.Path.{◌≡◌}
use lib.Ieee.{Float, binary64, add, mul}
use lib.ListN.{length}
use Rattle.basis.proofs.Lists.{filled}
use Rattle.fdct.specs.Told.{entries}
use Rattle.fdct.proofs.line.add_row.Given as goal

abbrev pub sum_at : List Float → List Float → ℕ → Float → ℕ → Float
sum_at sums block x cosine j = add binary64 (entries sums j) (mul binary64 (entries block (x * 8 + j)) cosine)

abbrev pub invariant-loop-j : goal.invariant-loop-j
invariant-loop-j l = (l.j ≤ 8) × (length l.out ≡ 8) × (l.out ≡ filled l.j (sum_at l.sums l.block l.x l.cosine) l.initial.out)
