-- `fdct::to_doubles` meets its contract.
use borrow.Author.Rules.{rules}
use Prim.Native.Nat.{ℕ}
use native.Mathlib.Omega.{arith}
use mathlib.Core.Path.{sym, ap, ◌∙◌}
use lib.Ieee.{binary64, of_int}
use Rattle.basis.specs.Lists.{tabulate}
use Rattle.basis.proofs.Lists.{filled_none, filled_set, filled_end}
use lib.IntN.{pos}
use lib.ListN.{get_or}
use mir.Syntax.{w32}
use mir.Val.{SFits}
use mir.ValLaws.{to_z-of_z}
use Rattle.fdct.specs.Told.{sample_at}
use Rattle.fdct.proofs.to_doubles.Goals as goal

pub loop-k-init : goal.loop-k-init
loop-k-init c = (search rules, search rules, search rules, sym (filled_none _ _))

pub loop-k-preserved : goal.loop-k-preserved
loop-k-preserved c =
    let l = c.loop-k in
    let x = get_or c.args.residual.now l.k (pos 0) in
    let fits : SFits w32 x = search rules in (
      search rules,
      search rules,
      search rules,
      filled_set l.k _ _ l.block _ l.invariant.3 (c.from.ensures ∙ ap (of_int binary64) (to_z-of_z w32 x fits)) (search rules),
    )

pub returns : goal.returns
returns c =
    let l = c.loop-k in
    filled_end l.k _ _ l.block l.invariant.3 (omega arith)
    ∙ ap (λ (n : ℕ). tabulate n (sample_at c.args.residual.now)) l.invariant.2
