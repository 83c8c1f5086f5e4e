-- `fdct::rounding::rested` meets its contract.
use mathlib.Core.Path.{refl}
use lib.Ieee.{of_bits}
use Rattle.fdct.proofs.rounding.rested.Goals as goal

pub returns : goal.returns
unfolding of_bits
returns c = refl
