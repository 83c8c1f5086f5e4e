-- `clip::head_reply` meets its contract.
use Rattle.std.proofs.Common.{arith}
use Rattle.std.proofs.lemmas.Grind.{common_steps}
use Rattle.clip.specs.Header.{head_reply}
use Rattle.clip.proofs.head_reply.Goals.{then-head-eq1, else-head-eq1}
use Rattle.clip.proofs.head_reply.Goals as goal

pub returns : goal.returns
unfolding head_reply
returns c = elim c.if-head-eq1.branch [
  | then-head-eq1 w ↦ grind (arith, common_steps)
  | else-head-eq1 w ↦ grind (arith, common_steps)
]
