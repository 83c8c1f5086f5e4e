-- `prediction::planes::predict_chroma` meets its contract.
use native.Mathlib.Omega.{arith}
use Prim.Native.Nat.{◌*◌}
use Rattle.basis.proofs.Case.{both}
use Rattle.plane.proofs.Ready.{block_ready}
use Rattle.prediction.proofs.PredictionReady.{corner_in}
use Rattle.prediction.proofs.planes.predict_chroma.Goals as goal

pub corner_at-requires : goal.corner_at-requires
corner_at-requires c =
    let r = block_ready _ _ _ _ _ c.requires in
    let at = corner_in (8 * c.args.place.column) (8 * c.args.place.row) (both r.corner_x r.corner_y) in
    (omega arith, omega (arith, at.across), omega (arith, at.down))
