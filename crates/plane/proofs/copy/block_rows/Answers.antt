-- `plane::copy::block_rows` meets its contract.
use Prim.Native.Nat.{◌+◌, ◌*◌, ◌≤◌}
use native.Mathlib.Omega.{arith}
use mathlib.Core.Path.{refl, sym}
use lib.ListN.{length, length-take, length-drop}
use Rattle.basis.proofs.Bounds.{row_before}
use Rattle.basis.proofs.Lists.{length-tabulate, laid_none, laid_put, laid_end}
use Rattle.plane.proofs.copy.block_rows.Goals as goal

pub loop-j-init : goal.loop-j-init
loop-j-init g c = (refl, λ f s. sym (laid_none _ _ (λ j. length-tabulate _ _) _))

pub loop-j-preserved : goal.loop-j-preserved
loop-j-preserved g c =
    let a = c.args in
    let j = c.loop-j.j in
    -- row j of the block lies within it
    let inside : j * a.w + a.w ≤ length c.loop-j.out = omega (arith, row_before a.w c.loop-j-test.true) in (
      omega arith,
      λ f s.
          laid_put _ _ (λ k. length-tabulate _ _) j a.out.now c.loop-j.out _ (c.loop-j.invariant.1 f s)
          (s.each j _ _ (omega arith) (simp (length-take, length-drop) (omega (arith, inside))) c.fill.ensures),
    )

pub returns : goal.returns
returns g c =
    record { filled = λ f s. laid_end _ _ (λ k. length-tabulate _ _) c.args.h c.loop-j.j c.args.out.now _ (c.loop-j.invariant.1 f s) (omega arith) c.requires.area }
