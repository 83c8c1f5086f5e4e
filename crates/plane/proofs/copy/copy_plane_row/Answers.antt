-- `plane::copy::copy_plane_row` meets its contract.
use Prim.Native.Nat.{◌+◌, ◌*◌, ◌≤◌}
use native.Mathlib.Omega.{arith}
use mathlib.Core.Path.{◌≡◌, ap, ◌∙◌}
use lib.IntN.{ℤ, pos, ◌+ℤ◌}
use lib.ListN.{length}
use mir.Val.{to_z, of_z}
use mir.Syntax.{w32}
use Rattle.basis.proofs.Lists.{tabulate_cong}
use mir.ValLaws.{to_z-of_z}
use Rattle.std.proofs.Common.{rules}
use Rattle.plane.specs.Plane.{Plane, clamp_to, copied, sample_at}
use Rattle.plane.proofs.Inside.{row_in_plane}
use Rattle.plane.proofs.Rows.{in_row}
use Rattle.plane.specs.ToldLent.{lent_plane}
use Rattle.plane.proofs.copy.copy_plane_row.Goals.{After-clamp_coordinate, Start}
use Rattle.plane.proofs.copy.copy_plane_row.Goals as goal

abbrev plane : Start → Plane
plane s = lent_plane s.args.plane

-- the row of the plane is the one nearest to y + j, and lies within the samples
module _ (c : After-clamp_coordinate) where
  nearest : c.clamp_coordinate.result ≡ clamp_to (plane (goal.at.After-clamp_coordinate c).Start).height (c.args.at.y +ℤ pos c.args.j)
  nearest =
      c.clamp_coordinate.ensures
      ∙ ap (λ (z : ℤ). clamp_to (plane (goal.at.After-clamp_coordinate c).Start).height (z +ℤ pos c.args.j)) (to_z-of_z w32 c.args.at.y (search rules))

  inside : c.clamp_coordinate.result * (plane (goal.at.After-clamp_coordinate c).Start).stride + (plane (goal.at.After-clamp_coordinate c).Start).width ≤ length (plane (goal.at.After-clamp_coordinate c).Start).samples
  inside = row_in_plane (plane (goal.at.After-clamp_coordinate c).Start) c.clamp_coordinate.result c.args.plane.held (omega (arith, c.clamp_coordinate.ensures))

pub returns : goal.returns
returns c =
    let s = (goal.at.returns c).Start in
    let k = (goal.at.returns c).After-clamp_coordinate in
    let a = c.args in
    let r = c.clamp_coordinate.result in
    c.copy_row.ensures
    ∙ tabulate_cong (length a.out.now) _ (λ i. copied (plane s) a.at.x a.at.y i a.j)
    (λ i h. in_row (plane s) (to_z w32 (of_z w32 a.at.x)) (a.at.y +ℤ pos a.j) r i c.args.plane.held.wide (inside k) (nearest k)
    ∙ ap (λ (z : ℤ). sample_at (plane s) (z +ℤ pos i) (a.at.y +ℤ pos a.j)) (to_z-of_z w32 a.at.x (search rules)))
