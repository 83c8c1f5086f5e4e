-- `quantise::inverse_ready` meets its contract.
use Rattle.std.proofs.Common.{rules}
use Rattle.quantise.specs.Block.{block_inverse}
use Rattle.quantise.proofs.Storing.{filled_is}
use Rattle.quantise.proofs.inverse_ready.Goals as goal

pub returns : goal.returns
unfolding block_inverse
returns c = filled_is _ _ c.fill.ensures.len (λ i h. let e = c.fill.ensures.each i h in search rules)
