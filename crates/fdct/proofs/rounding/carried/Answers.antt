-- `fdct::rounding::carried` meets its contract.
use mathlib.Core.Path.{sym}
use lib.Ieee.{of_bits}
use Rattle.basis.proofs.Case.{then, else}
use Rattle.fdct.proofs.rounding.carried.Goals as goal

pub returns-then-t-x : goal.returns-then-t-x
unfolding of_bits
returns-then-t-x c = sym (then _ _ _ c.if-t-x.true)

pub returns-else-t-x : goal.returns-else-t-x
unfolding of_bits
returns-else-t-x c = sym (else _ _ _ c.if-t-x.false)
