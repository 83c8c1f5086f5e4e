-- `fdct::rounding::coefficient_of` meets its contract: `proofs/Limits.antt` has what the clamped double has.
use mathlib.Core.Path.{◌≡◌, sym, ap, ◌∙◌, subst}
use mathlib.Core.Bool.{cond}
use lib.Dec.{T}
use lib.IntN.{pos, ◌-ℤ◌}
use native.Mathlib.Omega.{arith}
use Rattle.std.proofs.lemmas.Int.{ints}
use Rattle.basis.proofs.Case.{then, else}
use lib.Ieee.{Float, of_bits, lt, le}
use mir.Syntax.{w32}
use mir.Val.{to_z, of_z}
use Rattle.fdct.specs.Double.{zero_double}
use Rattle.fdct.specs.Rounding.{rounded_size, coefficient_of}
use Rattle.fdct.specs.Told.{known, not_above, not_below}
use Rattle.fdct.proofs.Limits.{Serves, serves, signed_size}
use Rattle.fdct.proofs.Signs.{top, sized_up, sized_magnitude}
use Rattle.fdct.proofs.rounding.coefficient_of.Goals.{After-nearest_up-n}
use Rattle.fdct.proofs.rounding.coefficient_of.Goals as goal

-- the clamped double, from what the three calls that clamp it say
clamped : (x a b z : Float) → a ≡ known x → b ≡ not_above a → z ≡ not_below b → Serves x z
clamped x a b z k h l = subst (Serves x) (sym (l ∙ ap not_below (h ∙ ap not_above k))) (serves x)

pub nearest_up-n-requires : goal.nearest_up-n-requires
nearest_up-n-requires c =
    let z = c.at_least-z.result in
    let s = clamped _ _ _ z c.known.ensures c.at_most.ensures c.at_least-z.ensures in
    let e = c.size.ensures in record {
      at_least_zero = subst T (sym (ap (λ (a : Float). le zero_double a) e ∙ sized_up z s.below_top)) tt;
      below_4096 = subst T (sym (ap (λ (a : Float). lt a top) e ∙ s.below_top)) tt;
    }

-- the size to the nearest, with its sign
size_is : (c : After-nearest_up-n) → c.nearest_up-n.result ≡ pos (rounded_size c.at_least-z.result)
size_is c = c.nearest_up-n.ensures ∙ ap pos (ap rounded_size c.size.ensures ∙ sized_magnitude c.at_least-z.result)

signed_is : (c : After-nearest_up-n) → let z = c.at_least-z.result in
    cond (lt z zero_double) (pos 0 -ℤ pos (rounded_size z)) (pos (rounded_size z)) ≡ coefficient_of c.args.x
signed_is c = signed_size _ _ (clamped _ _ _ _ c.known.ensures c.at_most.ensures c.at_least-z.ensures)

pub returns-then-z : goal.returns-then-z
unfolding of_bits
returns-then-z c =
    let at = (goal.at.returns-then-z c).After-nearest_up-n in
    let e = size_is at in
    (let k : to_z w32 (of_z w32 (pos 0 -ℤ to_z w32 (of_z w32 c.nearest_up-n.result))) ≡ pos 0 -ℤ pos (rounded_size c.at_least-z.result) = omega (arith, ints) in k)
    ∙ sym (then _ _ _ c.if-z.true)
    ∙ signed_is at

pub returns-else-z : goal.returns-else-z
unfolding of_bits
returns-else-z c =
    let at = (goal.at.returns-else-z c).After-nearest_up-n in
    let e = size_is at in
    (let k : to_z w32 (of_z w32 c.nearest_up-n.result) ≡ pos (rounded_size c.at_least-z.result) = omega (arith, ints) in k)
    ∙ sym (else _ _ _ c.if-z.false)
    ∙ signed_is at
