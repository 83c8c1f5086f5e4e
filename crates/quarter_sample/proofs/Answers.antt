-- A call that nothing turns back. Assumes nothing.
use Prim.Native.Nat.{ℕ}
use mathlib.Core.Path.{◌≡◌}
use Rattle.std.specs.Prelude.{Ok}
use Rattle.refusal.proofs.Replies.{both_done}
use Rattle.record.specs.declared.MotionVector.{MotionVector}
use Rattle.plane.specs.declared.Geometry.{Geometry}
use Rattle.plane.specs.declared.Site.{Site}
use Rattle.plane.specs.Reference.{block_reply}
use Rattle.quarter_sample.specs.Block.{bits_reply, quarter_reply}

pub quarter-done : (bpp : ℕ) (g : Geometry) (bytes : ℕ) (v : MotionVector) (site : Site) (area : ℕ)
    → bits_reply bpp ≡ Ok tt → block_reply g bytes v site area ≡ Ok tt → quarter_reply bpp g bytes v site area ≡ Ok tt
unfolding quarter_reply
quarter-done bpp g bytes v site area e f = both_done e f
