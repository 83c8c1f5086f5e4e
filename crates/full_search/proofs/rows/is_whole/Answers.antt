-- `full_search::rows::is_whole` meets its contract.
use Prim.Native.Nat.{◌≤◌}
use native.Mathlib.Omega.{arith}
use mathlib.Core.Path.{subst}
use mathlib.Core.Path.{◌≡◌}
use lib.IntN.{nat_abs}
use lib.Dec.{leb→le}
use Rattle.record.specs.declared.MotionVector.{MotionVector}
use Rattle.full_search.specs.Places.{distance}
use Rattle.full_search.proofs.Whole.{listed_whole}
use Rattle.full_search.proofs.rows.is_whole.Goals as goal

pub returns-then-max-tall : goal.returns-then-max-tall
returns-then-max-tall c =
    λ t.
    let row = c.args.row in
    let far = leb→le c.max-then-max-tall.result row.outer t in
    let last = subst (λ (v : MotionVector). distance v ≤ row.outer) c.right-last.ensures (omega arith) in
    let tall : nat_abs row.from.y ≡ c.magnitude-tall.result = grind arith in
    listed_whole row (omega arith) (omega arith) (λ z. omega arith) (omega arith) last
