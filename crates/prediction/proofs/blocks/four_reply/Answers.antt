-- `prediction::blocks::four_reply` meets its contract.
use native.Mathlib.Omega.{arith}
use mathlib.Core.Path.{◌≡◌, sym, ◌∙◌}
use Rattle.std.specs.Prelude.{true}
use Rattle.plane.specs.Reference.{origin_in_range}
use Rattle.plane.proofs.Ready.{origin_ready}
use Rattle.prediction.proofs.blocks.four_reply.Goals.{In_ok-motion_reply}
use Rattle.prediction.proofs.blocks.four_reply.Goals as goal

-- the first is not turned back, so the corner is in range
in_range : (c : In_ok-motion_reply) → origin_in_range c.args.corner ≡ true
in_range c = origin_ready c.args.a c.args.corner (sym c.motion_reply.ensures ∙ c.in_ok-motion_reply.was)

pub block_corner-requires : goal.block_corner-requires
block_corner-requires c = (in_range (goal.at.block_corner-requires c).In_ok-motion_reply, omega arith)

pub block_corner-requires-2 : goal.block_corner-requires-2
block_corner-requires-2 c = (in_range (goal.at.block_corner-requires-2 c).In_ok-motion_reply, omega arith)

pub block_corner-requires-3 : goal.block_corner-requires-3
block_corner-requires-3 c = (in_range (goal.at.block_corner-requires-3 c).In_ok-motion_reply, omega arith)
