-- `full_search::full::band_search` meets its contract.
use Prim.Native.Nat.{ℕ, ◌*◌, ◌≤◌}
use Rattle.full_search.specs.declared.Row.{Row}
use Rattle.full_search.specs.Costs.{zero_discount}
use Rattle.full_search.specs.ToldKept.{row_below}
use Rattle.full_search.proofs.OnPatches.{RowsKept}
use Rattle.full_search.proofs.full.band_search.Given as goal

-- row i of the band
abbrev pub line_of : Row → ℕ → Row
line_of first i = row_below first (4 * i)

abbrev pub invariant-loop-i : goal.invariant-loop-i
invariant-loop-i l =
    (l.i ≤ l.n) × RowsKept 16 l.judged.sought.source.now l.band l.first.from l.width 28 zero_discount (line_of l.first) l.initial.b l.i l.b
