-- `search::grids::best_of` meets its contract.
use Prim.Native.Nat.{ℕ, ◌+◌}
use native.Mathlib.Omega.{arith}
use mathlib.Core.Bool.{Bool, true, false}
use mathlib.Core.List.{List, foldl}
use mathlib.Core.Path.{◌≡◌, refl, sym, subst, ap, ap₂, ◌∙◌}
use lib.ListN.{length, replicate}
use Rattle.std.proofs.lemmas.List.{length-replicate}
use Rattle.std.specs.Prelude.{Ok, IsOk}
use Rattle.refusal.specs.Reply.{Reply, done}
use Rattle.plane.specs.Plane.{plane_of}
use Rattle.half_sample.specs.Ring.{ring_grid}
use Rattle.half_sample.proofs.Grids.{ring-done}
use Rattle.full_search.specs.Block.{lent_block}
use Rattle.full_search.specs.Costs.{scored, consider}
use Rattle.full_search.proofs.Patches.{copy_length}
use Rattle.search.specs.Sub.{ring}
use Rattle.search.specs.ToldGrids.{half_sum, grid_size, patch_size, patch_of}
use Rattle.search.proofs.GridSums.{grid_shorter, start_sum, ring_sums}
use Rattle.search.proofs.grids.best_of.Given.{Over}
use Rattle.search.proofs.grids.best_of.Goals.{After-interpolate_ring_into}
use Rattle.search.proofs.grids.best_of.Goals as goal

-- the grids of the patch
module _ (g : Over) (i : After-interpolate_ring_into g) where
  abbrev side : ℕ
  side = i.args.sought.target.side

  abbrev patch : List ℕ
  patch = i.copy_patch.new.patch

  -- so many samples that were 0
  abbrev made : ℕ
  made = length (replicate {A = ℕ} g.row.GRID 0)

  grid_made : made ≡ grid_size side
  grid_made = length-replicate {A = ℕ} g.row.GRID 0 ∙ i.requires.1.grid_fits

  grids_done : i.interpolate_ring_into.result ≡ Ok tt
  grids_done =
      let long : length patch ≡ patch_size side =
      copy_length (plane_of i.args.sought.reference.now i.args.sought.target.geometry) _ (side + 2) (side + 2) _ i.copy_patch.ensures in
      i.interpolate_ring_into.ensures.value ∙ ring-done _ (side + 2) _ _ _ (omega (arith, long, grid_made, grid_shorter side)) refl refl

  -- what was written, where it was
  grid_is : (hx hy : Bool) (old new : List ℕ)
      → new ≡ done i.interpolate_ring_into.result (ring_grid patch (side + 2) hx hy i.args.rounding made) old
      → new ≡ ring_grid (patch_of i.args.sought i.args.v) (side + 2) hx hy i.args.rounding (grid_size side)
  grid_is hx hy old new e =
      e ∙ ap (λ (r : Reply). done r (ring_grid patch (side + 2) hx hy i.args.rounding made) old) grids_done
      ∙ ap₂ (λ (p : List ℕ) (n : ℕ). ring_grid p (side + 2) hx hy i.args.rounding n) i.copy_patch.ensures grid_made

pub unwrap-requires : goal.unwrap-requires
unwrap-requires g c = subst IsOk (sym (grids_done g (goal.at.unwrap-requires g c).After-interpolate_ring_into)) refl

pub returns : goal.returns
returns g c =
    let k = (goal.at.returns g c).After-interpolate_ring_into in
    let r = c.requires.0 in
    let a = c.args in
    let sum = half_sum a.rounding (lent_block a.sought) in
    let start = start_sum a.fcode a.v r.is_free r.vector_in_is a.sought a.rounding _ r.ready c.copy_patch.ensures in
    let w = c.interpolate_ring_into.ensures in
    let around =
    ring_sums a.fcode a.v r.is_free r.vector_in_is a.sought a.rounding _ _ _ (grid_is g k true false _ _ w.right_after)
    (grid_is g k false true _ _ w.below_after) (grid_is g k true true _ _ w.between_after) in
    c.grid_ring.ensures.kept sum (record { each = around })
    ∙ ap (λ (k : ℕ). foldl (consider sum) (scored a.v k) (ring a.fcode 1 a.v)) (c.window_sum-cost.ensures ∙ start)
