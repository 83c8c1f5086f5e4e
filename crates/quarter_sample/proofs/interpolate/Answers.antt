-- The copy is not refused, and the places of what it leaves are those of the mirrored copy.
use Rattle.std.proofs.Common.{ℕ, ◌≡◌, ◌+◌, ◌*◌, ◌%◌, ◌≤◌, ◌<◌, ◌++◌, List, ◌+ℤ◌, drop, replicate, sym, ap, ◌∙◌, length-take-le, arith, rules}
use mir.Syntax.{w32}
use mir.Val.{to_z, of_z}
use Rattle.basis.proofs.Bits.{rest_below}
use Rattle.basis.proofs.Bounds.{product_le}
use Rattle.refusal.proofs.Replies.{left}
use Rattle.plane.specs.Plane.{plane_of, copied, copied_block}
use Rattle.plane.proofs.Moved.{moved_fits}
use Rattle.plane.proofs.Ready.{block_ready, copy_done}
use Rattle.quarter_sample.specs.Block.{quarter_sample, quarter_block}
use Rattle.quarter_sample.specs.Filter.{largest}
use Rattle.quarter_sample.specs.Split.{split_quarter}
use Rattle.quarter_sample.specs.ToldPasses.{place_at}
use Rattle.quarter_sample.proofs.Blocks.{buffer_copy}
use Rattle.quarter_sample.proofs.interpolate.Goals.{Start}
use Rattle.quarter_sample.proofs.interpolate.Goals as goal

-- the copied block has at most 17 x 17 samples
small : (s : Start) → (s.args.site.width + 1) * (s.args.site.height + 1) ≤ 289
small s =
    let r = block_ready _ _ _ _ _ s.requires.ready in
    let w : s.args.site.width + 1 ≤ 17 = omega (arith, r.side_w.high) in
    let h : s.args.site.height + 1 ≤ 17 = omega (arith, r.side_h.high) in
    product_le w h

pub overflow_add-at : goal.overflow_add-at
overflow_add-at c =
    let r = block_ready _ _ _ _ _ c.requires.ready in
    let f = moved_fits c.args.site.corner.x c.args.vector.x 4 r.corner_x r.vector_x in
    search rules

pub slice_bounds-copy_block-end : goal.slice_bounds-copy_block-end
slice_bounds-copy_block-end c = sym (length-take-le _ _ (small (goal.at.slice_bounds-copy_block-end c).Start))

pub overflow_mul-down : goal.overflow_mul-down
overflow_mul-down c =
    let v = c.args.vector in
    let n : c.split_quarter_pel-down.result.fraction ≡ (split_quarter v.y).fraction = search rules in
    omega (arith, rest_below v.y)

pub overflow_add-across : goal.overflow_add-across
overflow_add-across c =
    let v = c.args.vector in
    let m : c.split_quarter_pel-across.result.fraction ≡ (split_quarter v.x).fraction = search rules in
    let n : c.split_quarter_pel-down.result.fraction ≡ (split_quarter v.y).fraction = search rules in
    omega (arith, rest_below v.x, rest_below v.y)

pub interpolate_place-requires : goal.interpolate_place-requires
interpolate_place-requires c =
    let r = block_ready _ _ _ _ _ c.requires.ready in
    let v = c.args.vector in
    let m : c.split_quarter_pel-across.result.fraction ≡ (split_quarter v.x).fraction = search rules in
    let n : c.split_quarter_pel-down.result.fraction ≡ (split_quarter v.y).fraction = search rules in
    let fx : c.split_quarter_pel-across.result.fraction < 4 = omega (arith, rest_below v.x) in
    let fy : c.split_quarter_pel-down.result.fraction < 4 = omega (arith, rest_below v.y) in (
      record {
        width_low = omega (arith, r.side_w.low);
        width_high = r.side_w.high;
        height_low = omega (arith, r.side_h.low);
        height_high = r.side_h.high;
        rc_small = omega arith;
        out_fits = omega (arith, r.fits);
      },
      omega arith,
    )

pub returns : goal.returns
unfolding quarter_block quarter_sample
returns c =
    let s = (goal.at.returns c).Start in
    let r = block_ready _ _ _ _ _ c.requires.ready in
    let a = c.args in
    let o = a.site.corner in
    let v = a.vector in
    let m = c.split_quarter_pel-across.result in
    let n = c.split_quarter_pel-down.result in
    let f = moved_fits o.x v.x 4 r.corner_x r.vector_x in
    let g = moved_fits o.y v.y 4 r.corner_y r.vector_y in
    let x : to_z w32 (of_z w32 (to_z w32 (of_z w32 o.x) +ℤ to_z w32 (of_z w32 m.whole))) ≡ o.x +ℤ (split_quarter v.x).whole = search rules in
    let y : to_z w32 (of_z w32 (to_z w32 (of_z w32 o.y) +ℤ to_z w32 (of_z w32 n.whole))) ≡ o.y +ℤ (split_quarter v.y).whole = search rules in
    let fx : m.fraction ≡ (split_quarter v.x).fraction = search rules in
    let fy : n.fraction ≡ (split_quarter v.y).fraction = search rules in
    let w = a.site.width in
    let h = a.site.height in
    let p = plane_of a.samples.now a.geometry in
    let rest : List ℕ = drop ((w + 1) * (h + 1)) (replicate 289 0) in
    let buffer = c.copy_block.new.out in
    let copy : buffer ≡ copied_block p (record { x = o.x +ℤ (split_quarter v.x).whole; y = o.y +ℤ (split_quarter v.y).whole }) (w + 1) (h + 1) =
    left _ _ _ _ _ c.copy_block.ensures.value (copy_done _ _ _ _ _ r.reference (length-take-le _ _ (small s))) c.copy_block.ensures.out_after
    ∙ λ i. copied_block p (record { x = x i; y = y i }) (w + 1) (h + 1) in
    c.interpolate_place.ensures
    ∙ (λ i. place_at w h (a.rounding % 2) (c.largest_sample.ensures i) (fx i + 4 * fy i) (buffer ++ rest))
    ∙ buffer_copy (a.rounding % 2) (largest a.bits_per_pixel) w h (split_quarter v.x).fraction (split_quarter v.y).fraction
    (copied p (o.x +ℤ (split_quarter v.x).whole) (o.y +ℤ (split_quarter v.y).whole)) (buffer ++ rest) rest
    (omega (arith, r.side_w.low)) (omega (arith, r.side_h.low)) (rest_below v.x) (rest_below v.y) (ap (λ (b : List ℕ). b ++ rest) copy)
