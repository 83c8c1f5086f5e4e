-- `fdct::write_out` meets its contract.
use borrow.Author.Rules.{rules}
use Prim.Native.Nat.{ℕ}
use native.Mathlib.Omega.{arith}
use mathlib.Core.Path.{sym, ap, ◌∙◌}
use Rattle.basis.specs.Lists.{tabulate}
use Rattle.basis.proofs.Lists.{filled_none, filled_set, filled_end}
use Rattle.basis.proofs.Signed.{of_bits_lem}
use Rattle.fdct.specs.Told.{entries}
use Rattle.fdct.specs.Rounding.{coefficient_of}
use Rattle.fdct.proofs.write_out.Goals as goal

pub loop-k-init : goal.loop-k-init
loop-k-init c = (search rules, search rules, search rules, sym (filled_none _ _))

pub loop-k-preserved : goal.loop-k-preserved
loop-k-preserved c =
    let l = c.loop-k in
    let v = of_bits_lem _ c.coefficient_of.type_inv ∙ c.coefficient_of.ensures in
    (search rules, search rules, search rules, filled_set l.k _ _ l.out _ l.invariant.3 v (search rules))

pub returns : goal.returns
returns c =
    let l = c.loop-k in
    filled_end l.k _ _ l.out l.invariant.3 (omega arith)
    ∙ ap (λ (n : ℕ). tabulate n (λ k. coefficient_of (entries c.args.block.now k))) l.invariant.2
