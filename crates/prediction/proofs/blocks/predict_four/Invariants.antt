-- `prediction::blocks::predict_four` meets its contract.
use Prim.Native.Nat.{◌≤◌}
use mathlib.Core.Path.{◌≡◌}
use lib.ListN.{length}
use Rattle.basis.proofs.Lists.{laid}
use Rattle.plane.specs.Plane.{plane_of}
use Rattle.prediction.specs.ToldFour.{eight_block}
use Rattle.prediction.proofs.blocks.predict_four.Given as goal

abbrev pub invariant-loop-k : goal.invariant-loop-k
invariant-loop-k l =
    (l.k ≤ 4) × (length l.out ≡ length l.initial.out) × (l.out ≡ laid 64 (eight_block l.mode (plane_of l.samples l.geometry) l.vectors l.corner l.rounding) l.k l.initial.out)
