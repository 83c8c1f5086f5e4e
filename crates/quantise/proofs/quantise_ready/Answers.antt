-- `quantise::quantise_ready` meets its contract.
use Rattle.std.proofs.Common.{rules}
use Rattle.quantise.specs.Block.{block_levels}
use Rattle.quantise.proofs.Storing.{filled_is}
use Rattle.quantise.proofs.quantise_ready.Goals as goal

pub returns-then-first_method : goal.returns-then-first_method
unfolding block_levels
returns-then-first_method c =
    rw c.if-first_method.true (filled_is _ _ c.fill.ensures.len (λ i h. let e = c.fill.ensures.each i h in search rules))

pub returns-else-first_method : goal.returns-else-first_method
unfolding block_levels
returns-else-first_method c =
    rw c.if-first_method.false (filled_is _ _ c.fill-else-first_method.ensures.len (λ i h. let e = c.fill-else-first_method.ensures.each i h in search rules))
