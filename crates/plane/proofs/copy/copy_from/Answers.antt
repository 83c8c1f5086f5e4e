-- `plane::copy::copy_from` meets its contract.
use Prim.Native.Nat.{◌-◌}
use native.Mathlib.Omega.{arith}
use mathlib.Core.Path.{refl, sym, ◌∙◌}
use lib.IntN.{pos}
use lib.ListN.{length, get_or, take, drop, length-take, length-drop}
use Rattle.basis.proofs.Slices.{put_two}
use Rattle.plane.proofs.Rows.{straight, past_last}
use Rattle.plane.proofs.copy.copy_from.Goals as goal

pub returns-then-out-inside : goal.returns-then-out-inside
returns-then-out-inside c =
    let s = c.args in
    c.copy_straight.ensures ∙ straight s.row.now (pos s.at) s.at (length s.out.now) refl refl (omega arith)

pub returns : goal.returns
returns c =
    let s = c.args in
    let row = s.row.now in
    let m = length row - s.at in
    put_two s.out.now (take m (drop s.at row)) _ _ m (λ _. get_or row (length row - 1) 0)
    c.copy_straight-2.ensures
    (simp (length-take, length-drop) (omega arith)) c.fill.ensures
    ∙ past_last row s.at m (length s.out.now) (omega arith) (omega arith)
