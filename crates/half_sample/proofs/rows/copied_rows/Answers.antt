-- The block is averaged in its copy.
use Rattle.std.proofs.Common.{◌≡◌, ap, ap₂, ◌∙◌, pos, rules}
use Rattle.refusal.proofs.Replies.{left}
use Rattle.basis.specs.Lists.{raster}
use Rattle.plane.specs.Plane.{Plane, plane_of, copied_block}
use Rattle.plane.proofs.Ready.{copy_done}
use Rattle.half_sample.specs.ToldRows.{sample_by}
use Rattle.half_sample.proofs.Averages.{copy_by, averaged_copy}
use Rattle.half_sample.proofs.rows.copied_rows.Goals as goal

pub returns : goal.returns
returns c =
    let a = c.args.block in
    let from = plane_of a.samples.now a.geometry in
    let w = c.samples_for-columns.ensures in
    let h = c.samples_for-lines.ensures in
    let copy = c.copy_block.ensures in
    let samples = left _ _ _ _ _ copy.value (copy_done _ _ _ _ _ a.needs.reference (search rules)) copy.out_after ∙ ap₂ (copied_block from a.at) w h in
    let same : plane_of c.copy_block.new.out (record { width = c.samples_for-columns.result; height = c.samples_for-lines.result; stride = c.samples_for-columns.result })
    ≡ copy_by from a.at a.site a.halves =
    λ i. record { samples = samples i; width = w i; height = h i; stride = w i } in
    c.plane_rows.ensures
    ∙ ap (λ (p : Plane). raster a.site.width a.site.height (sample_by p (pos 0) (pos 0) a.halves)) same
    ∙ averaged_copy from a.at a.site a.halves
