-- `fdct::line::weighted_sums` meets its contract.
use borrow.Author.Rules.{rules}
use Prim.Native.Nat.{ℕ}
use native.Mathlib.Omega.{arith}
use mathlib.Core.Path.{◌≡◌, refl, ap, ◌∙◌}
use lib.Ieee.{of_bits}
use Rattle.basis.specs.Lists.{tabulate}
use Rattle.fdct.specs.Told.{dot}
use Rattle.fdct.proofs.Lines.{sums_of, sums_more}
use Rattle.fdct.proofs.line.weighted_sums.Goals as goal

pub loop-x-init : goal.loop-x-init
unfolding tabulate dot of_bits
loop-x-init c = (search rules, refl)

pub loop-x-preserved : goal.loop-x-preserved
loop-x-preserved c =
    let l = c.loop-x in
    (search rules, sums_more c.args.table.now c.args.block.now l.sums _ c.args.u l.x l.invariant.1 c.add_row-sums.ensures)

pub returns : goal.returns
returns c =
    let l = c.loop-x in
    let end : l.x ≡ 8 = omega arith in
    l.invariant.1 ∙ ap (λ (x : ℕ). sums_of c.args.table.now c.args.block.now c.args.u x) end
