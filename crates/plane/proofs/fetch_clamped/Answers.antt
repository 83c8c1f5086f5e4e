-- `plane::fetch_clamped` meets its contract.
use mathlib.Core.Path.{sym, ◌∙◌}
use Rattle.plane.proofs.Ready.{usable}
use Rattle.plane.proofs.fetch_clamped.Goals as goal

pub sample-requires : goal.sample-requires
sample-requires c = (usable _ _ (sym c.reference_reply.ensures ∙ c.in_ok-reference_reply.was)).hold
