-- `full_search::full::near_rows` meets its contract.
use Prim.Native.Nat.{◌≤◌}
use Rattle.full_search.specs.Costs.{zero_discount}
use Rattle.full_search.specs.Full.{near_square}
use Rattle.full_search.proofs.OnPatches.{SquareKept}
use Rattle.full_search.proofs.full.near_rows.Given as goal

abbrev pub invariant-loop-j : goal.invariant-loop-j
invariant-loop-j l = (l.j ≤ 17) × SquareKept 16 l.source l.patch near_square 32 zero_discount l.initial.b l.j l.b
