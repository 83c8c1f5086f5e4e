-- The two rows that are averaged are those of the plane nearest to y + j and y + j + 1.
use Rattle.std.proofs.Common.{◌+◌, ◌-◌, ◌*◌, ◌≤◌, pos, ◌+ℤ◌, length, take, drop, ◌∙◌, arith, rules}
use Rattle.plane.specs.Plane.{plane_of}
use Rattle.plane.proofs.Rows.{inside_row}
use Rattle.half_sample.proofs.Averages.{averaged_row}
use Rattle.half_sample.proofs.rows.plane_row.Goals as goal

pub returns : goal.returns
returns c =
    let a = c.args in
    let p = plane_of a.samples.now a.geometry in
    let n = c.samples_for-columns.result in
    let top = c.clamp_coordinate.result * p.stride + a.column in
    let low = c.clamp_coordinate-2.result * p.stride + a.column in
    let w : a.column + n ≤ p.width = omega (arith, c.requires.inside) in
    c.average_row.ensures
    ∙ averaged_row p (pos a.column) a.at.y (take (top + n - top) (drop top p.samples)) (take (low + n - low) (drop low p.samples)) a.halves (length a.out.now) a.j
    (λ i h. inside_row p a.column (a.at.y +ℤ pos a.j) c.clamp_coordinate.result n i (search rules) w (omega arith))
    (λ i h. inside_row p a.column (a.at.y +ℤ pos (a.j + 1)) c.clamp_coordinate-2.result n i (search rules) w (omega arith))
