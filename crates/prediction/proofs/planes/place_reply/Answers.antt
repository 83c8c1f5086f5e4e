-- `prediction::planes::place_reply` meets its contract.
use native.Mathlib.Omega.{arith}
use mathlib.Core.Path.{sym}
use Rattle.prediction.proofs.PredictionReady.{far_refused}
use Rattle.prediction.proofs.planes.place_reply.Goals as goal

pub returns-then-place-gt256 : goal.returns-then-place-gt256
returns-then-place-gt256 c = sym (far_refused c.args.motion c.args.place (λ h. omega (arith, h.across, h.down)))
