-- `full_search::full::seed_from` meets its contract.
use Prim.Native.Nat.{◌≤◌}
use native.Mathlib.Omega.{arith}
use mathlib.Core.Path.{◌≡◌, ap, ◌∙◌}
use lib.IntN.{ℤ, pos, ◌-ℤ◌}
use lib.Signed.{quot_z}
use mir.Syntax.{w32}
use mir.Val.{to_z, of_z}
use mir.Facts.{to_z-of_z}
use Rattle.basis.specs.Parts.{above, below}
use Rattle.basis.proofs.Parts.{above-sub, below_sub, parts_fit}
use Rattle.prediction.specs.Luma.{units_per_pel}
use Rattle.full_search.proofs.Moves.{quotient_small}
use Rattle.full_search.proofs.full.seed_from.Goals as goal

read : (z : ℤ) → above z ≤ 2050 → below z ≤ 2050 → to_z w32 (of_z w32 z) ≡ z
read z h k = to_z-of_z {w = w32} (parts_fit z (omega arith) (omega arith))

-- two less, as the machine takes it off
two_less : (z q : ℤ) → z ≡ q → above q ≤ 2048 → below q ≤ 2048 → to_z w32 (of_z w32 (to_z w32 (of_z w32 z) -ℤ pos 2)) ≡ q -ℤ pos 2
two_less z q e h k =
    ap (λ (v : ℤ). to_z w32 (of_z w32 (v -ℤ pos 2))) (ap (λ (v : ℤ). to_z w32 (of_z w32 v)) e ∙ read q (omega arith) (omega arith))
    ∙ read (q -ℤ pos 2) (omega (arith, above-sub q (pos 2))) (omega (arith, below_sub q (pos 2)))

pub returns : goal.returns
returns c =
    let s = c.args.seed in
    let r = c.requires in
    let u = units_per_pel c.args.mode in
    let of = λ (z : ℤ). quot_z z (pos u) in
    let p = quotient_small s.x u 2048 r.x_above r.x_below in
    let q = quotient_small s.y u 2048 r.y_above r.y_below in
    let x = two_less c.divided.result (of s.x) (c.divided.ensures ∙ ap of (read s.x (omega arith) (omega arith))) p.0 p.1 in
    let y = two_less c.divided-2.result (of s.y) (c.divided-2.ensures ∙ ap of (read s.y (omega arith) (omega arith))) q.0 q.1 in
    λ i. record { x = x i; y = y i }
