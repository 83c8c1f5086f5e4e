-- `plane::copy::gathered_row` meets its contract.
use Prim.Native.Nat.{ℕ, ◌+◌, ◌-◌, ◌*◌, ◌≤◌}
use native.Mathlib.Omega.{arith}
use mathlib.Core.Path.{◌≡◌, sym, ap, ◌∙◌}
use lib.IntN.{ℤ, pos, ◌+ℤ◌}
use lib.ListN.{length, get_or, take, drop}
use Rattle.basis.proofs.Lists.{tabulate_cong}
use mir.Syntax.{w32}
use mir.ValLaws.{to_z-of_z}
use Rattle.std.proofs.Common.{rules}
use Rattle.basis.proofs.Slices.{part_length}
use Rattle.plane.specs.Plane.{Plane, clamp_to, copied}
use Rattle.plane.proofs.Inside.{row_in_plane}
use Rattle.plane.proofs.Rows.{in_row, at_column, columns_in}
use Rattle.plane.specs.ToldLent.{lent_plane}
use Rattle.plane.proofs.copy.gathered_row.Goals.{After-clamp_coordinate, Start}
use Rattle.plane.proofs.copy.gathered_row.Goals as goal

abbrev plane : Start → Plane
plane s = lent_plane s.args.plane

-- the row of the plane is the one nearest to y + j, and lies within the samples
module _ (c : After-clamp_coordinate) where
  nearest : c.clamp_coordinate.result ≡ clamp_to (plane (goal.at.After-clamp_coordinate c).Start).height (c.args.at.y +ℤ pos c.args.j)
  nearest =
      c.clamp_coordinate.ensures
      ∙ ap (λ (z : ℤ). clamp_to (plane (goal.at.After-clamp_coordinate c).Start).height (z +ℤ pos c.args.j)) (to_z-of_z w32 c.args.at.y (search rules))

  inside : c.clamp_coordinate.result * (plane (goal.at.After-clamp_coordinate c).Start).stride + (plane (goal.at.After-clamp_coordinate c).Start).width ≤ length (plane (goal.at.After-clamp_coordinate c).Start).samples
  inside = row_in_plane (plane (goal.at.After-clamp_coordinate c).Start) c.clamp_coordinate.result c.args.plane.held (omega (arith, c.clamp_coordinate.ensures))

  row_length : let k = c.clamp_coordinate.result * (plane (goal.at.After-clamp_coordinate c).Start).stride in
      length (take (k + (plane (goal.at.After-clamp_coordinate c).Start).width - k) (drop k (plane (goal.at.After-clamp_coordinate c).Start).samples)) ≡ (plane (goal.at.After-clamp_coordinate c).Start).width
  row_length = part_length (plane (goal.at.After-clamp_coordinate c).Start).samples (c.clamp_coordinate.result * (plane (goal.at.After-clamp_coordinate c).Start).stride) (plane (goal.at.After-clamp_coordinate c).Start).width inside

pub gather-requires : goal.gather-requires
gather-requires c =
    let q = c.requires in
    (q.0, columns_in c.args.columns.now (plane (goal.at.gather-requires c).Start).width _ c.args.at.x q.1 c.args.plane.held.wide (row_length (goal.at.gather-requires c).After-clamp_coordinate))

pub returns : goal.returns
returns c =
    let s = (goal.at.returns c).Start in
    let l = (goal.at.returns c).After-clamp_coordinate in
    let a = c.args in
    let r = c.clamp_coordinate.result in
    let k = r * (plane s).stride in
    let w = (plane s).width in
    let row = take (k + w - k) (drop k a.plane.samples.now) in
    let x = a.at.x in
    c.gather.ensures
    ∙ tabulate_cong (length a.out.now) _ (λ i. copied (plane s) x a.at.y i a.j)
    (λ i h. ap (λ (m : ℕ). get_or row m 0) (at_column a.columns.now w x i c.requires.1 (omega (arith, c.requires.0)))
    ∙ ap (λ (m : ℕ). get_or row (clamp_to m (x +ℤ pos i)) 0) (sym (row_length l))
    ∙ in_row (plane s) x (a.at.y +ℤ pos a.j) r i c.args.plane.held.wide (inside l) (nearest l))
