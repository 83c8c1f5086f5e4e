-- The entries whose calls are made again here, by the header's order.
use Rattle.std.specs.Prelude.{ℕ, Bool, ◌||◌}
use Rattle.refusal.specs.Test.{between}

-- 27 to 31, 36 and 37
abbrev pub is_own : ℕ → Bool
is_own n = between 27 31 n || between 36 37 n
