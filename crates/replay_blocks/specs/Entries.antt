-- The entries whose calls are made again here, by the header's order.
use Rattle.std.specs.Prelude.{ℕ, Bool, ◌||◌}
use Rattle.refusal.specs.Test.{between}

-- 1 to 19 and 32 to 35
abbrev pub is_own : ℕ → Bool
is_own n = between 1 19 n || between 32 35 n
