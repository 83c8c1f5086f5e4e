-- Whether a displacement is listed, and what a search that meets it keeps. Assumes nothing.
use Prim.Native.Nat.{ℕ, ◌-◌, ◌<◌, ◌≤◌}
use mathlib.Core.Bool.{cond, ◌&&◌}
use mathlib.Core.List.{[], ◌∷◌}
use mathlib.Core.Path.{◌≡◌, ap}
use lib.Dec.{leb, ltb, eqb}
use borrow.Author.Tests.{le-leb, lt-leb, eq-eqb, ne_eqb}
use Rattle.basis.proofs.Case.{then, else, both, first_fails, second_fails}
use Rattle.record.specs.declared.MotionVector.{MotionVector}
use Rattle.full_search.specs.declared.Scored.{Scored}
use Rattle.full_search.specs.Places.{distance, listed}
use Rattle.full_search.specs.Costs.{discounted, scored, consider}

module _ (inner outer : ℕ) (d : MotionVector) where
  pub too_near : distance d < inner → listed inner outer d ≡ []
  unfolding listed
  too_near h = else (leb inner (distance d) && leb (distance d) outer) (d ∷ []) [] (first_fails (leb (distance d) outer) (lt-leb inner (distance d) h))

  pub too_far : outer < distance d → listed inner outer d ≡ []
  unfolding listed
  too_far h = else (leb inner (distance d) && leb (distance d) outer) (d ∷ []) [] (second_fails (leb inner (distance d)) (lt-leb (distance d) outer h))

  pub is_listed : inner ≤ distance d → distance d ≤ outer → listed inner outer d ≡ d ∷ []
  unfolding listed
  is_listed h k = then (leb inner (distance d) && leb (distance d) outer) (d ∷ []) [] (both (le-leb inner (distance d) h) (le-leb (distance d) outer k))

-- what is considered at one cost is considered at another that is the same there
pub consider_cost : (f g : MotionVector → ℕ) (s : Scored) (v : MotionVector) → f v ≡ g v → consider f s v ≡ consider g s v
unfolding consider
consider_cost f g s v e = ap (λ (n : ℕ). cond (ltb n s.cost) (scored v n) s) e

-- zero costs less, any other displacement its sum
module _ (discount : ℕ) (sum : MotionVector → ℕ) (d : MotionVector) where
  pub zero_costs : distance d ≡ 0 → discounted discount sum d ≡ sum d - discount
  zero_costs h = then (eqb (distance d) 0) (sum d - discount) (sum d) (eq-eqb (distance d) 0 h)

  pub other_costs : (distance d ≡ 0 → ⊥) → discounted discount sum d ≡ sum d
  other_costs h = else (eqb (distance d) 0) (sum d - discount) (sum d) (ne_eqb (distance d) 0 h)
