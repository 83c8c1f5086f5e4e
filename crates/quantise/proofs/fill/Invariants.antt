-- `quantise::fill` meets its contract.
use Prim.Native.Nat.{ℕ, ◌<◌}
use lib.IntN.{pos}
use lib.ListN.{length, get_or}
use mathlib.Core.Path.{◌≡◌}
use Rattle.quantise.proofs.fill.Given as goal

abbrev pub invariant-loop-i : goal.invariant-loop-i
invariant-loop-i g l = (length l.out ≡ 64) × ((k : ℕ) → k < l.i → goal.F-post g l.at k (get_or l.out k (pos 0)))
