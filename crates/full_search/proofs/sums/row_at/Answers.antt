-- `full_search::sums::row_at` meets its contract.
use mathlib.Core.Path.{◌∙◌}
use Rattle.full_search.specs.ToldPatch.{lines_from}
use Rattle.full_search.proofs.RowSums.{row_parts}
use Rattle.full_search.proofs.sums.row_at.Goals as goal

pub returns : goal.returns
returns g c =
    let a = c.args in
    (c.row.ensures.0 ∙ row_parts g.row.SIDE a.source.now a.apart a.window.now (lines_from a.at a.stride) a.j, c.row.ensures.1)
