-- `search::sub::refine_subpel` meets its contract.
use Rattle.full_search.specs.Block.{lent_block}
use Rattle.search.specs.Sums.{vector_sum}
use Rattle.search.proofs.Refined.{refine_quarter}
use Rattle.search.proofs.sub.refine_subpel.Goals as goal

pub returns-in-QuarterPel : goal.returns-in-QuarterPel
returns-in-QuarterPel c =
    let a = c.args in
    cc (refine_quarter (vector_sum a.settings (lent_block a.sought)) a.settings a.winner.vector _ c.in-QuarterPel.is)
