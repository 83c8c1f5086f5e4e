-- `play::row::add_steps` meets its contract: a line has at most 198 bytes.
use Rattle.std.proofs.Common.{◌*◌, ◌≤◌, length}
use Rattle.play.proofs.row.add_steps.Given as goal

abbrev pub invariant-loop-prediction : goal.invariant-loop-prediction
invariant-loop-prediction l = length l.lines.items ≤ 198 * l.prediction-index
