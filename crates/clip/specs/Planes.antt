-- How many bytes the planes have that follow a header. Rule W3; a chroma side is half, rounded up.
use Rattle.std.specs.Prelude.{◌+◌, ◌*◌, ◌/◌}
use Rattle.refusal.specs.Reply.{done}
use Rattle.clip.specs.declared.Head.{Head}
use Rattle.clip.specs.declared.PlaneLengths.{PlaneLengths}
use Rattle.clip.specs.Header.{head_reply}

abbrev pub no_lengths : PlaneLengths
no_lengths = record { luma = 0; chroma = 0 }

-- a luma plane, and a chroma plane
abbrev pub planes_of : Head → PlaneLengths
planes_of h = record { luma = h.width * h.height; chroma = (h.width + 1) / 2 * ((h.height + 1) / 2) }

-- none where the header is refused
unfoldable pub plane_lengths_of : Head → PlaneLengths
plane_lengths_of h = done (head_reply h) (planes_of h) no_lengths
