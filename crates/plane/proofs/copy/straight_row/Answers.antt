-- `plane::copy::straight_row` meets its contract.
use Prim.Native.Nat.{◌+◌, ◌-◌, ◌*◌, ◌≤◌}
use native.Mathlib.Omega.{arith}
use mathlib.Core.Path.{◌≡◌, sym, ap, ◌∙◌}
use lib.IntN.{ℤ, pos, ◌+ℤ◌}
use lib.ListN.{length, take, drop}
use Rattle.basis.proofs.Lists.{tabulate_cong, tabulate_same}
use mir.Syntax.{w32}
use mir.ValLaws.{to_z-of_z}
use Rattle.std.proofs.Common.{rules}
use Rattle.basis.proofs.Slices.{part_length}
use Rattle.plane.specs.Plane.{Plane, clamp_to, copied}
use Rattle.plane.proofs.Rows.{inside_row, row_end}
use Rattle.plane.specs.ToldLent.{lent_plane}
use Rattle.plane.proofs.copy.straight_row.Goals.{After-clamp_coordinate, Start}
use Rattle.plane.proofs.copy.straight_row.Goals as goal

abbrev plane : Start → Plane
plane s = lent_plane s.args.plane

-- the row of the plane is the one nearest to y + j, and its part lies within the samples
module _ (c : After-clamp_coordinate) where
  nearest : c.clamp_coordinate.result ≡ clamp_to (plane (goal.at.After-clamp_coordinate c).Start).height (c.args.at.y +ℤ pos c.args.j)
  nearest =
      c.clamp_coordinate.ensures
      ∙ ap (λ (z : ℤ). clamp_to (plane (goal.at.After-clamp_coordinate c).Start).height (z +ℤ pos c.args.j)) (to_z-of_z w32 c.args.at.y (search rules))

  inside : c.clamp_coordinate.result * (plane (goal.at.After-clamp_coordinate c).Start).stride + c.args.column + length c.args.out.now ≤ length (plane (goal.at.After-clamp_coordinate c).Start).samples
  inside =
      row_end (plane (goal.at.After-clamp_coordinate c).Start) c.args.column c.clamp_coordinate.result (length c.args.out.now) c.args.plane.held
      (omega (arith, c.clamp_coordinate.ensures)) c.requires

pub returns : goal.returns
returns c =
    let s = (goal.at.returns c).Start in
    let l = (goal.at.returns c).After-clamp_coordinate in
    let a = c.args in
    let n = length a.out.now in
    let k = c.clamp_coordinate.result * (plane s).stride + a.column in
    let part = take (k + n - k) (drop k a.plane.samples.now) in
    c.copy_straight.ensures
    ∙ sym (tabulate_same n part 0 (part_length a.plane.samples.now k n (inside l)))
    ∙ tabulate_cong n _ (λ i. copied (plane s) (pos a.column) a.at.y i a.j)
    (λ i h. inside_row (plane s) a.column (a.at.y +ℤ pos a.j) c.clamp_coordinate.result n i (nearest l) c.requires h)
