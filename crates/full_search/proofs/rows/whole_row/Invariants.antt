-- `full_search::rows::whole_row` meets its contract.
use Prim.Native.Nat.{ℕ, ◌≤◌}
use mathlib.Core.Path.{◌≡◌}
use Rattle.full_search.proofs.OnPatches.{RowKept}
use Rattle.full_search.proofs.rows.whole_row.Given as goal

abbrev pub invariant-loop-k : goal.invariant-loop-k
invariant-loop-k l =
    (l.k ≤ l.k-end) × (l.k-end ≡ l.row.count) × ((discount : ℕ) → RowKept 16 l.source l.patch l.at l.row discount l.initial.b l.k l.b)
