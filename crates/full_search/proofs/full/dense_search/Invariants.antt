-- `full_search::full::dense_search` meets its contract.
use Prim.Native.Nat.{◌≤◌}
use mathlib.Core.Path.{◌≡◌}
use lib.ListN.{length}
use Rattle.full_search.specs.Full.{dense_row}
use Rattle.full_search.specs.ToldKept.{kept_rows, sixteen_cost}
use Rattle.full_search.proofs.full.dense_search.Given as goal

abbrev pub invariant-loop-j : goal.invariant-loop-j
invariant-loop-j l =
    (l.j ≤ 7) × (length l.strip ≡ 368) × (l.b ≡ kept_rows (sixteen_cost l.judged) (dense_row l.w l.winner.y) l.initial.b l.j)
