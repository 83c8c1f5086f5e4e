-- The entries whose calls are made again here, by the header's order.
use Rattle.std.specs.Prelude.{ℕ, Bool}
use Rattle.refusal.specs.Test.{between}

-- 20 to 26
abbrev pub is_own : ℕ → Bool
is_own n = between 20 26 n
