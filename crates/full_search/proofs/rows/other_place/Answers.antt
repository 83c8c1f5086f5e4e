-- `full_search::rows::other_place` meets its contract.
use mathlib.Core.Path.{refl}
use Rattle.full_search.specs.ToldPatch.{lines_from}
use Rattle.full_search.proofs.OnPatches.{considered, other_here}
use Rattle.full_search.proofs.rows.other_place.Goals as goal

pub returns : goal.returns
returns c =
    let a = c.args in
    let at = lines_from a.first a.stride in
    λ discount. considered 16 a.source.now a.patch.now at discount a.d c.block-sum.result a.best c.consider.result c.consider.ensures refl
    (other_here 16 a.source.now a.patch.now at discount a.d c.block-sum.result c.block-sum.ensures c.requires.1)
