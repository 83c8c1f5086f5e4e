-- `fdct::line::scale_row` meets its contract.
use Prim.Native.Nat.{ℕ, ◌<◌}
use mathlib.Core.Path.{◌≡◌}
use lib.Ieee.{Float, binary64, mul}
use lib.ListN.{length}
use Rattle.fdct.specs.Told.{entries}
use Rattle.fdct.proofs.line.scale_row.Given as goal

abbrev pub invariant-loop-j : goal.invariant-loop-j
invariant-loop-j g l =
    (length l.out ≡ 8)
    × ((k : ℕ) → k < l.j → (s : Float) × goal.F-post g l.scale k s × (entries l.out k ≡ mul binary64 s (entries l.sums k)))
