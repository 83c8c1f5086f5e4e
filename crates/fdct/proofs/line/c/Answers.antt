-- `fdct::line::c` meets its contract: the two literals are the doubles of the definition.
use mathlib.Core.Path.{sym, ap}
use mathlib.Core.Bool.{Bool, cond}
use borrow.Author.Tests.{eq-eqb, ne_eqb}
use lib.Ieee.{of_bits}
use Rattle.fdct.specs.Double.{one_double, nearest_double}
use Rattle.fdct.specs.Line.{weight}
use Rattle.fdct.proofs.line.c.Goals as goal

pub returns-then-k-eq0 : goal.returns-then-k-eq0
unfolding weight of_bits
returns-then-k-eq0 c = sym (ap (λ (t : Bool). cond t (nearest_double 70710678118654752440) one_double) (eq-eqb _ _ c.if-k-eq0.true))

pub returns-else-k-eq0 : goal.returns-else-k-eq0
unfolding weight of_bits
returns-else-k-eq0 c = sym (ap (λ (t : Bool). cond t (nearest_double 70710678118654752440) one_double) (ne_eqb _ _ c.if-k-eq0.false))
