-- What a displacement costs, and the better of two. Rules C3, C5.
use Rattle.std.specs.Prelude.{ℕ, ◌-◌, cond, ltb, eqb}
use Rattle.record.specs.declared.MotionVector.{MotionVector}
use Rattle.full_search.specs.declared.Scored.{Scored}
use Rattle.full_search.specs.Places.{distance}

-- zero costs its sum less a discount, not below 0; any other displacement costs its sum
abbrev pub discounted : ℕ → (MotionVector → ℕ) → MotionVector → ℕ
discounted discount sum d = cond (eqb (distance d) 0) (sum d - discount) (sum d)

-- the discount in the search for one vector; for four there is none
abbrev pub zero_discount : ℕ
zero_discount = 128

abbrev pub scored : MotionVector → ℕ → Scored
scored v n = record { vector = v; cost = n }

-- a displacement at its own cost
abbrev pub at_cost : (MotionVector → ℕ) → MotionVector → Scored
at_cost cost v = scored v (cost v)

-- of the best so far and an entry, the entry only where its cost is strictly smaller
unfoldable pub consider : (MotionVector → ℕ) → Scored → MotionVector → Scored
consider cost s v = cond (ltb (cost v) s.cost) (scored v (cost v)) s
