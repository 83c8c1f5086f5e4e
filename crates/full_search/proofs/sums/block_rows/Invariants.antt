-- `full_search::sums::block_rows` meets its contract.
use Prim.Native.Nat.{◌/◌}
use Rattle.full_search.specs.ToldPatch.{lines_from}
use Rattle.full_search.proofs.RowSums.{RowsSummed}
use Rattle.full_search.proofs.sums.block_rows.Given as goal

abbrev pub invariant-loop-k : goal.invariant-loop-k
invariant-loop-k g l = RowsSummed g.row.SIDE l.source l.apart l.window (lines_from l.at l.stride) (g.row.SIDE / 2) l.k l.sum
