-- `search::sub::ring` meets its contract.
use Prim.Native.Nat.{ℕ, ◌≤◌}
use mathlib.Core.List.{foldl}
use mathlib.Core.Path.{◌≡◌}
use Rattle.basis.specs.Lists.{rows}
use Rattle.record.specs.declared.MotionVector.{MotionVector}
use Rattle.full_search.specs.Costs.{consider}
use Rattle.search.specs.Sub.{ring_at}
use Rattle.search.specs.ToldRing.{SumsAround}
use Rattle.search.proofs.sub.ring.Given as goal

abbrev pub invariant-loop-n : goal.invariant-loop-n
invariant-loop-n g l =
    (l.n ≤ 9)
    × ((sum : MotionVector → ℕ) → SumsAround (λ n v r. goal.F-post g l.cost n v r) l.fcode l.step l.best.vector sum
    → l.b ≡ foldl (consider sum) l.best (rows l.n (ring_at l.fcode l.step l.best.vector)))
