-- `coding::residual::six_residuals` meets its contract.
use borrow.Author.Count.{below_more}
use Prim.Native.Nat.{ℕ, ◌<◌}
use native.Mathlib.Omega.{arith}
use mathlib.Core.Path.{◌≡◌, sym, subst}
use lib.ListN.{length}
use Rattle.basis.proofs.Lists.{laid_none, laid_put, laid_end}
use Rattle.plane.specs.Samples.{Samples}
use Rattle.coding.specs.Residual.{samples_of, residual_of, ResidualRange}
use Rattle.coding.proofs.SixBlocks.{residual_at, block_length, six_in_range}
use Rattle.coding.proofs.residual.six_residuals.Goals as goal

row_length : (source prediction : Samples) (b : ℕ) → length (residual_at source prediction b) ≡ 64
row_length source prediction b = block_length (samples_of source b) (samples_of prediction b)

pub loop-b-init : goal.loop-b-init
loop-b-init c =
    (omega arith, c.requires.2, c.requires.2, sym (laid_none 64 _ (row_length _ _) _), λ k h. absurd (none k h))
  where
    none : (k : ℕ) → k < 0 → ⊥
    none k h = omega arith

pub loop-b-preserved : goal.loop-b-preserved
loop-b-preserved c =
    let i = c.loop-b.invariant in
    let e = c.block_residual.ensures in (
      omega arith,
      i.1,
      omega arith,
      laid_put 64 _ (row_length _ _) _ _ _ _ i.3 e.out_after,
      below_more _ _ i.4 (subst (ResidualRange 64) e.out_after e.residual_range),
    )

pub returns : goal.returns
unfolding residual_of
returns c =
    let i = c.loop-b.invariant in
    let e = laid_end 64 _ (row_length _ _) 6 _ _ _ i.3 (omega arith) i.1 in
    record { out_after = e; residual_range = subst (ResidualRange 384) (sym e) (six_in_range _ (row_length _ _) (λ b h. i.4 b (omega arith))) }
