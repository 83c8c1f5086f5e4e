-- `full_search::full::square_search` meets its contract.
use Prim.Native.Nat.{◌≤◌}
use mathlib.Core.Path.{◌≡◌}
use Rattle.full_search.proofs.OnPatches.{SquareKept}
use Rattle.full_search.proofs.full.square_search.Given as goal

abbrev pub invariant-loop-j : goal.invariant-loop-j
invariant-loop-j l =
    (l.j ≤ l.j-end) × (l.j-end ≡ l.square.count) × SquareKept l.side l.judged.sought.source.now l.patch l.square l.width 0 l.initial.b l.j l.b
