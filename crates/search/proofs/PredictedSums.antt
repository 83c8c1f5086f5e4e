-- A block's prediction is not refused, and the sum of a vector is that of the source against it. Assumes nothing.
use Prim.Native.Nat.{ℕ, ◌*◌, ◌≤◌}
use native.Mathlib.Omega.{arith}
use mathlib.Core.Bool.{true}
use mathlib.Core.List.{List}
use mathlib.Core.Path.{◌≡◌, refl, ap, ◌∙◌}
use lib.IntN.{ℤ, pos, negsuc}
use lib.ListN.{length}
use Rattle.basis.specs.Parts.{above, below}
use Rattle.basis.proofs.Case.{both}
use Rattle.basis.proofs.Lists.{length-raster}
use Rattle.basis.proofs.Signed.{le_is}
use Rattle.std.specs.Prelude.{Ok}
use Rattle.refusal.specs.Test.{in_range}
use Rattle.record.specs.declared.MotionVector.{MotionVector}
use Rattle.plane.specs.declared.Point.{Point}
use Rattle.plane.specs.Corner.{square_at}
use Rattle.plane.specs.Plane.{plane_of}
use Rattle.plane.specs.Reference.{origin_in_range}
use Rattle.plane.proofs.Ready.{motion_done}
use Rattle.prediction.specs.Luma.{predicted_block, interpolation_reply}
use Rattle.prediction.proofs.Ready.{luma_done}
use Rattle.full_search.specs.declared.Sought.{Sought}
use Rattle.full_search.specs.Block.{lent_block}
use Rattle.full_search.specs.Told.{Inside}
use Rattle.full_search.specs.Won.{sum_of}
use Rattle.full_search.proofs.Taken.{block_sum_is}
use Rattle.search.specs.declared.SearchSettings.{SearchSettings}
use Rattle.search.specs.Sums.{vector_sum}
use Rattle.search.specs.Told.{Predictable}
use Rattle.search.proofs.WholeSums.{sum_of_blocks}

corner_in : (o : Point) → Inside o → origin_in_range o ≡ true
corner_in o i = both (part o.x i.x_most i.x_least) (part o.y i.y_most i.y_least)
  where
    part : (z : ℤ) → above z ≤ 4088 → below z ≡ 0 → in_range (negsuc 4095) (pos 4096) z ≡ true
    part z p q = both (le_is (negsuc 4095) z (omega arith)) (le_is z (pos 4096) (omega arith))

module _ (b : Sought) (s : SearchSettings) (v : MotionVector) (p : Predictable b s v) where
  pub predicted_done : (area : ℕ) → area ≡ b.target.side * b.target.side
      → interpolation_reply s.mode b.target.geometry (length b.reference.now) v (square_at b.target.corner b.target.side) area ≡ Ok tt
  predicted_done area k =
      let r = p.ready in
      let t = b.target in
      luma_done s.mode t.geometry (length b.reference.now) v (square_at t.corner t.side) area p.mode_usable r.reference
      (motion_done v t.corner (corner_in t.corner r.inside) p.vector_in_is) k r.is_side_is r.is_side_is

  -- the sum on a predicted block is the vector's
  pub predicted_sum : (predicted : List ℕ)
      → predicted ≡ predicted_block s.mode (plane_of b.reference.now b.target.geometry) (square_at b.target.corner b.target.side) s.rounding v
      → sum_of b.source.now predicted b.target.side ≡ vector_sum s (lent_block b) v
  unfolding predicted_block
  predicted_sum predicted e =
      let side = b.target.side in
      ap (λ (l : List ℕ). sum_of b.source.now l side) e
      ∙ block_sum_is b.source.now _ side p.ready.is_side_is p.ready.source_fits (length-raster side side _)
      ∙ sum_of_blocks s (lent_block b) b.source.now (λ i j h k. refl) v
