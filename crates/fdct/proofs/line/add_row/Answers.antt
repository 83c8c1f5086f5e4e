-- `fdct::line::add_row` meets its contract.
use borrow.Author.Rules.{rules}
use native.Mathlib.Omega.{arith}
use mathlib.Core.Path.{refl, sym}
use Rattle.basis.proofs.Lists.{filled_none, filled_set, filled_end}
use Rattle.fdct.proofs.line.add_row.Goals as goal

pub loop-j-init : goal.loop-j-init
loop-j-init c = (search rules, refl, sym (filled_none _ _))

pub loop-j-preserved : goal.loop-j-preserved
loop-j-preserved c = let l = c.loop-j in (search rules, search rules, filled_set l.j _ _ l.out _ l.invariant.2 refl (search rules))

pub returns : goal.returns
returns c = let l = c.loop-j in filled_end l.j _ _ l.out l.invariant.2 (omega arith)
