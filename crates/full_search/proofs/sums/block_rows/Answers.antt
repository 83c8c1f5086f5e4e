-- `full_search::sums::block_rows` meets its contract.
use Prim.Native.Nat.{◌/◌}
use native.Mathlib.Omega.{arith}
use mathlib.Core.Path.{◌∙◌}
use Rattle.basis.proofs.Sums.{summed_none, summed_more, summed_end}
use Rattle.full_search.specs.ToldPatch.{lines_from}
use Rattle.full_search.proofs.RowSums.{all_rows}
use Rattle.full_search.proofs.Sides.{side_even}
use Rattle.full_search.proofs.sums.block_rows.Goals as goal

pub loop-k-init : goal.loop-k-init
loop-k-init g c = summed_none _ _ _

pub loop-k-preserved : goal.loop-k-preserved
loop-k-preserved g c =
    summed_more _ _ _ c.loop-k.invariant (omega arith) (omega arith) (omega arith)

pub returns : goal.returns
returns g c =
    let a = c.args in
    (summed_end _ _ _ c.loop-k.invariant (omega arith)).0
    ∙ all_rows g.row.SIDE a.source.now a.apart a.window.now (lines_from a.at a.stride) (g.row.SIDE / 2) (side_even g.row.SIDE c.requires.0)
