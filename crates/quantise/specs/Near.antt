-- How near a level comes to its coefficient (rule L5; demand 3's last sentence, D8).
use Rattle.std.specs.Prelude.{ℕ, ◌+◌, ◌*◌, ◌/◌, ◌≤◌, ◌<◌, cond, List, ◌≡◌, eqb, ℤ, pos, nat_abs, ◌-ℤ◌, get_or}
use Rattle.quantise.specs.Level.{inverse_by_quantiser}

-- 1 for q = 1, 3 floor(q/2) above it
abbrev pub tolerance : ℕ → ℕ
tolerance q = cond (eqb q 1) 1 (3 * (q / 2))

pub record Near (q : ℕ) (f level : ℤ) : Type 0 where
  -- a non-zero level, inverse quantised, lies within the tolerance of its coefficient
  pub kept : (level ≡ pos 0 → ⊥) → nat_abs (inverse_by_quantiser q level -ℤ f) ≤ tolerance q
  -- a zero level's coefficient is below 2q + floor(q/2) in size
  pub dropped : level ≡ pos 0 → nat_abs f < 2 * q + q / 2

-- each level of a block
pub record NearAll (q : ℕ) (fs levels : List ℤ) : Type 0 where
  pub at : (i : ℕ) → i < 64 → Near q (get_or fs i (pos 0)) (get_or levels i (pos 0))
