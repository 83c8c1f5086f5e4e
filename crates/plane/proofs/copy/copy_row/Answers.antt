-- `plane::copy::copy_row` meets its contract.
use Prim.Native.Nat.{ℕ}
use native.Mathlib.Omega.{arith}
use mathlib.Core.Path.{◌≡◌, refl, sym, ap, ◌∙◌}
use borrow.Author.Differences.{up, down}
use lib.IntN.{ℤ, pos, negsuc}
use lib.ListN.{length, get_or, length-take}
use Rattle.std.proofs.lemmas.Int.{ints, clamps}
use Rattle.basis.specs.Lists.{tabulate}
use Rattle.basis.specs.Parts.{above, below}
use Rattle.basis.proofs.Lists.{length-tabulate}
use Rattle.basis.proofs.Slices.{put_two}
use Rattle.basis.proofs.Parts.{sides}
use Rattle.plane.specs.ToldHeld.{clamped_in}
use Rattle.plane.proofs.Rows.{before_first}
use Rattle.plane.proofs.copy.copy_row.Goals as goal

-- the two parts of a number in the library's words
above_up : (z : ℤ) → above z ≡ up z
above_up (pos n) = refl
above_up (negsuc n) = refl

below_down : (z : ℤ) → below z ≡ down z
below_down (pos n) = refl
below_down (negsuc n) = refl

pub returns : goal.returns
returns c =
    let row = c.args.row.now in
    let out = c.args.out.now in
    let x = c.args.x in
    let b = c.min-left.result in
    let a = c.min-at.result in
    put_two out (tabulate b (λ _. get_or row 0 0)) _ _ b (clamped_in row (pos a))
    (c.fill.ensures ∙ ap (λ (n : ℕ). tabulate n (λ _. get_or row 0 0)) (simp length-take (omega arith)))
    (length-tabulate _ _) c.copy_from.ensures
    ∙ before_first row x (length out) b a
    (omega (arith, ints, clamps, above_up x, below_down x, sides x, c.min.ensures.value, c.unsigned_abs.ensures.value, c.min-left.ensures))
    (omega (arith, ints, clamps, above_up x, below_down x, sides x, c.max.ensures.value, c.min-at.ensures))
