-- `coding::residual::part_residual` meets its contract.
use Rattle.std.proofs.Common.{◌≡◌, true, pos, negsuc, sym, subst, arith}
use lib.IntN.{ℤ}
use Rattle.refusal.specs.Test.{in_range}
use Rattle.coding.specs.Told.{difference_at}
use Rattle.coding.proofs.Differences.{difference_read, difference_in, stored_none, stored_more}
use Rattle.coding.proofs.residual.part_residual.Goals as goal

pub loop-k-init : goal.loop-k-init
loop-k-init g c = stored_none _ _ c.requires.area_long

pub loop-k-preserved : goal.loop-k-preserved
loop-k-preserved g c =
    let a = c.type_inv.source _ in
    let b = c.type_inv.prediction _ in
    let e = difference_read _ _ a.fits b.fits _ _ c.from.ensures c.from-in-loop-k.ensures in
    stored_more (difference_at g.row.STRIDE c.args.from c.args.source.now c.args.prediction.now) c.args.out.now c.loop-k.out c.loop-k.k _
    c.loop-k.invariant (omega arith) e (subst (λ (z : ℤ). in_range (negsuc 254) (pos 255) z ≡ true) (sym e) (difference_in _ _ a.fits b.fits))
