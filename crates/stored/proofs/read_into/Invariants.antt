-- `stored::read_into` meets its contract: after i turns the first i elements are read.
use Rattle.std.proofs.Common.{◌≡◌, ℕ, ◌≤◌, length}
use Rattle.basis.proofs.Lists.{filled}
use Rattle.stored.proofs.read_into.Given as goal

abbrev pub invariant-loop-i : goal.invariant-loop-i
invariant-loop-i g l =
    (l.i ≤ l.i-end) × (l.i-end ≡ length l.initial.out) × (l.out ≡ filled l.i (λ (j : ℕ). g.T.Element.kind.element l.call l.from j) l.initial.out)
