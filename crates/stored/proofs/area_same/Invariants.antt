-- `stored::area_same` meets its contract: what is known of the first i elements.
use Rattle.std.proofs.Common.{◌≡◌, length}
use lib.Dec.{leb}
use Rattle.stored.specs.Same.{up_to, answered_of, element_is}
use Rattle.stored.proofs.area_same.Given as goal

abbrev pub invariant-loop-i : goal.invariant-loop-i
invariant-loop-i g l =
    l.same ≡ up_to (leb (answered_of l.call l.k) (length l.area)) (element_is g.T.Element.kind l.call l.k l.area) l.i
