-- `plane::copy::block_rows` meets its contract.
use Prim.Native.Nat.{ℕ}
use mathlib.Core.Path.{◌≡◌}
use lib.ListN.{length}
use Rattle.basis.specs.Lists.{tabulate}
use Rattle.basis.proofs.Lists.{laid}
use Rattle.plane.specs.ToldRows.{FillsRows}
use Rattle.plane.proofs.copy.block_rows.Given as goal

abbrev pub invariant-loop-j : goal.invariant-loop-j
invariant-loop-j g l =
    (length l.out ≡ length l.initial.out)
    × ((f : ℕ → ℕ → ℕ) → FillsRows (λ j part left. goal.F-post g l.fill j part tt left) l.w l.h f
    → l.out ≡ laid l.w (λ j. tabulate l.w (λ i. f i j)) l.j l.initial.out)
