-- A mode that is a number.
use Rattle.std.specs.Prelude.{ℕ, Ok}
use Rattle.refusal.specs.declared.Refusal.TheVariants.{Mode}
use Rattle.refusal.specs.Reply.{Reply, unless}
use Rattle.refusal.specs.Bounds.{is_mode}

-- 2: a mode that is neither 0, half samples, nor 1, quarter samples
unfoldable pub mode_number_reply : ℕ → Reply
mode_number_reply mode = unless (is_mode mode) Mode (Ok tt)
