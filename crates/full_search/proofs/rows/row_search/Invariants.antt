-- `full_search::rows::row_search` meets its contract.
use Prim.Native.Nat.{◌≤◌}
use mathlib.Core.Path.{◌≡◌}
use Rattle.full_search.proofs.OnPatches.{RowKept}
use Rattle.full_search.proofs.rows.row_search.Given as goal

abbrev pub invariant-loop-k : goal.invariant-loop-k
invariant-loop-k l =
    (l.k ≤ l.k-end) × (l.k-end ≡ l.row.count) × RowKept l.side l.source l.patch l.at l.row l.discount l.initial.b l.k l.b
