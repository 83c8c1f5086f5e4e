-- `prediction::blocks::weave_part` meets its contract.
use native.Mathlib.Omega.{arith}
use mathlib.Core.Path.{refl, ◌∙◌}
use Prim.Native.Nat.{◌+◌}
use lib.ListN.{get_or}
use Rattle.basis.proofs.Slices.{part_tabulate}
use Rattle.prediction.specs.ToldFour.{part_at}
use Rattle.prediction.proofs.blocks.weave_part.Goals as goal

pub returns : goal.returns
returns c =
    let b = c.args.blocks.now in
    let at = part_at c.args.n in
    c.copy_from_slice.ensures.after ∙ part_tabulate b at 8 (λ i. get_or b (at + i) 0) 0 (omega arith) (λ i h. refl)
