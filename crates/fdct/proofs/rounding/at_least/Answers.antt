-- `fdct::rounding::at_least` meets its contract.
use mathlib.Core.Path.{sym}
use lib.Ieee.{of_bits, neg}
use Rattle.basis.proofs.Case.{then, else}
use Rattle.fdct.proofs.rounding.at_least.Goals as goal

pub returns-then-x : goal.returns-then-x
unfolding of_bits neg
returns-then-x c = sym (then _ _ _ c.if-x.true)

pub returns-else-x : goal.returns-else-x
unfolding of_bits neg
returns-else-x c = sym (else _ _ _ c.if-x.false)
