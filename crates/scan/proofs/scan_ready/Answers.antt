-- `scan::scan_ready` meets its contract.
use borrow.Author.Rules.{rules}
use Prim.Native.Nat.{ℕ, ◌+◌, ◌*◌, ◌≤◌}
use native.Mathlib.Omega.{arith}
use mathlib.Core.List.{List}
use mathlib.Core.Path.{◌≡◌, sym, ap, subst, ◌∙◌}
use lib.IntN.{ℤ, pos}
use lib.ListN.{length}
use Rattle.basis.proofs.Slices.{part_at, part_length}
use Rattle.scan.specs.Grid.{scanned, Permutes}
use Rattle.scan.proofs.Accepted.{scan_lengths}
use Rattle.scan.proofs.Grids.{permutes, Scattered, scatter_none, scatter_row, scatter_all, row_below}
use Rattle.scan.proofs.scan_ready.Goals.{After-scan_grid-grid, Start}
use Rattle.scan.proofs.scan_ready.Goals as goal

lengths : (s : Start) → (length s.args.levels.now ≡ 64) × (length s.args.out.now ≡ 64)
lengths s = scan_lengths s.args.levels.now s.args.scan (length s.args.out.now) s.requires

-- the grid is a permutation, so the places that are read from it are of the 64
grid_permutes : (c : After-scan_grid-grid) → Permutes c.scan_grid-grid.result
grid_permutes c = subst Permutes (sym c.scan_grid-grid.ensures) (permutes c.args.scan)

pub loop-y-init : goal.loop-y-init
loop-y-init c = (omega arith, scatter_none c.scan_grid-grid.result c.args.levels.now c.args.out.now (lengths (goal.at.loop-y-init c).Start).1)

pub slice_bounds-scan_row-end : goal.slice_bounds-scan_row-end
slice_bounds-scan_row-end c = let long = (lengths (goal.at.slice_bounds-scan_row-end c).Start).0 in search rules

pub scan_row-requires : goal.scan_row-requires
scan_row-requires c =
    let more = c.loop-y-test.true in
    record {
      levels_long = part_length c.args.levels.now (c.loop-y.y * 8) 8 (omega (arith, (lengths (goal.at.scan_row-requires c).Start).0, more));
      area_long = c.loop-y.invariant.1.long;
      below = λ x h. row_below (grid_permutes (goal.at.scan_row-requires c).After-scan_grid-grid) c.loop-y.y x more h;
    }

pub loop-y-preserved : goal.loop-y-preserved
loop-y-preserved c =
    let g = c.scan_grid-grid.result in
    let xs = c.args.levels.now in
    let y = c.loop-y.y in
    let more = c.loop-y-test.true in (
      search rules,
      subst (Scattered g xs _) (let e : y * 8 + 8 ≡ (y + 1) * 8 = omega arith in e)
          (subst (λ (o : List ℤ). Scattered g xs o (y * 8 + 8)) (sym c.scan_row.ensures)
          (scatter_row g xs c.loop-y.out _ y 8 (grid_permutes (goal.at.loop-y-preserved c).After-scan_grid-grid) more (omega arith) c.loop-y.invariant.1 (λ x h. part_at xs (y * 8) 8 x (pos 0) h))),
    )

pub shape_of-out : goal.shape_of-out
shape_of-out c = c.loop-y.invariant.1.long ∙ sym (lengths (goal.at.shape_of-out c).Start).1

pub returns : goal.returns
returns c =
    let end : 64 ≤ c.loop-y.y * 8 = omega arith in
    scatter_all (grid_permutes (goal.at.returns c).After-scan_grid-grid) c.loop-y.invariant.1 end
    ∙ ap (λ (h : List (List ℕ)). scanned h c.args.levels.now) c.scan_grid-grid.ensures
