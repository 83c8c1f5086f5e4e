-- `full_search::sums::row` meets its contract.
use Rattle.full_search.proofs.RowSums.{RowSummed}
use Rattle.full_search.proofs.sums.row.Given as goal

abbrev pub invariant-loop-i : goal.invariant-loop-i
invariant-loop-i g l = RowSummed g.row.SIDE l.a l.b l.i l.sum
