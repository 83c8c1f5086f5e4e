-- The block starts where the split vector leads from its corner.
use Rattle.std.proofs.Common.{◌≡◌, ◌∙◌, ◌+ℤ◌, rules}
use mir.Syntax.{w32}
use mir.Val.{to_z, of_z}
use Rattle.basis.specs.Lists.{raster}
use Rattle.plane.specs.Plane.{plane_of}
use Rattle.plane.proofs.Ready.{block_ready}
use Rattle.plane.proofs.Moved.{moved_fits}
use Rattle.half_sample.specs.Block.{sample_from, half_sample, half_block}
use Rattle.half_sample.specs.Split.{split_half}
use Rattle.half_sample.proofs.interpolate_ready.Goals as goal

pub overflow_add-at : goal.overflow_add-at
overflow_add-at c =
    let r = block_ready _ _ _ _ _ c.requires in
    let f = moved_fits c.args.site.corner.x c.args.vector.x 2 r.corner_x r.vector_x in
    search rules

pub overflow_add-at-2 : goal.overflow_add-at-2
overflow_add-at-2 c =
    let r = block_ready _ _ _ _ _ c.requires in
    let f = moved_fits c.args.site.corner.y c.args.vector.y 2 r.corner_y r.vector_y in
    search rules

pub returns : goal.returns
unfolding half_block half_sample
returns c =
    let r = block_ready _ _ _ _ _ c.requires in
    let a = c.args in
    let o = a.site.corner in
    let m = c.split_half_pel-across.result in
    let n = c.split_half_pel-along.result in
    let f = moved_fits o.x a.vector.x 2 r.corner_x r.vector_x in
    let g = moved_fits o.y a.vector.y 2 r.corner_y r.vector_y in
    let x : to_z w32 (of_z w32 (to_z w32 (of_z w32 o.x) +ℤ to_z w32 (of_z w32 m.whole))) ≡ o.x +ℤ (split_half a.vector.x).whole = search rules in
    let y : to_z w32 (of_z w32 (to_z w32 (of_z w32 o.y) +ℤ to_z w32 (of_z w32 n.whole))) ≡ o.y +ℤ (split_half a.vector.y).whole = search rules in
    let hx : m.half ≡ (split_half a.vector.x).half = search rules in
    let hy : n.half ≡ (split_half a.vector.y).half = search rules in
    c.interpolate_from.ensures
    ∙ λ i. raster a.site.width a.site.height (sample_from (plane_of a.samples.now a.geometry) (x i) (y i) (hx i) (hy i) (c.from.ensures i))
