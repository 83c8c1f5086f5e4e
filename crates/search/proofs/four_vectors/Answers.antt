-- `search::four_vectors` meets its contract.
use native.Mathlib.Omega.{arith}
use Rattle.search.proofs.Eights.{copied_eights}
use Rattle.search.proofs.SourceBlock.{copied_eight}
use Rattle.search.proofs.four_vectors.Goals as goal

pub block_vector-a-requires : goal.block_vector-a-requires
block_vector-a-requires c = copied_eight _ _ c.copied_macroblock-sought.ensures _ c.requires.0 0 _ (omega arith) c.requires.1

pub block_vector-b-requires : goal.block_vector-b-requires
block_vector-b-requires c = copied_eight _ _ c.copied_macroblock-sought.ensures _ c.requires.0 1 _ (omega arith) c.requires.1

pub block_vector-c-requires : goal.block_vector-c-requires
block_vector-c-requires c = copied_eight _ _ c.copied_macroblock-sought.ensures _ c.requires.0 2 _ (omega arith) c.requires.1

pub block_vector-d-requires : goal.block_vector-d-requires
block_vector-d-requires c = copied_eight _ _ c.copied_macroblock-sought.ensures _ c.requires.0 3 _ (omega arith) c.requires.1

pub returns : goal.returns
returns c =
    let a = c.args in
    cc (copied_eights a.settings a.seed _ c.copied_macroblock-sought.result c.copied_macroblock-sought.ensures)
