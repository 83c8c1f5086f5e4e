-- `scan::scan_row` meets its contract.
use borrow.Author.Rules.{rules}
use Prim.Native.Nat.{ℕ, ◌<◌}
use native.Mathlib.Omega.{arith}
use mathlib.Core.Path.{◌≡◌, refl, ap, ◌∙◌}
use lib.ListN.{length, get_or}
use Rattle.basis.proofs.Signed.{of_bits_lem}
use Rattle.scan.specs.Told.{put_row}
use Rattle.scan.proofs.Grids.{length_put, put_more}
use Rattle.scan.proofs.scan_row.Goals.{At-loop-x, In-loop-x}
use Rattle.scan.proofs.scan_row.Goals as goal

-- the place that is read from the row is one of the 64, and the area still has them
k-below : (c : In-loop-x) → get_or c.args.row c.loop-x.x 0 < 64
k-below c = c.requires.below c.loop-x.x c.loop-x-test.true

long : (c : At-loop-x) → length c.loop-x.out ≡ length c.args.out.now
long c = ap length c.loop-x.invariant.1 ∙ length_put c.args.row c.args.levels.now c.loop-x.x c.args.out.now

pub loop-x-init : goal.loop-x-init
unfolding put_row
loop-x-init c = (search rules, refl)

pub overflow_cast-k : goal.overflow_cast-k
overflow_cast-k c = record { fits = omega (arith, k-below (goal.at.overflow_cast-k c).In-loop-x) }

pub bounds-levels-x : goal.bounds-levels-x
bounds-levels-x c = omega (arith, c.requires.levels_long)

pub offset_bounds-out-k : goal.offset_bounds-out-k
offset_bounds-out-k c = record { fits = omega (arith, k-below (goal.at.offset_bounds-out-k c).In-loop-x) }

pub bounds-out-k : goal.bounds-out-k
bounds-out-k c = omega (arith, k-below (goal.at.bounds-out-k c).In-loop-x, long (goal.at.bounds-out-k c).At-loop-x, c.requires.area_long)

pub loop-x-preserved : goal.loop-x-preserved
loop-x-preserved c =
    let a = c.args in
    (search rules, put_more a.row a.levels.now a.out.now c.loop-x.out c.loop-x.x _ c.loop-x.invariant.1 (of_bits_lem _ c.out-1.given))

pub shape_of-out : goal.shape_of-out
shape_of-out c = long (goal.at.shape_of-out c).At-loop-x

pub returns : goal.returns
returns c =
    let a = c.args in
    let end : c.loop-x.x ≡ 8 = omega arith in
    c.loop-x.invariant.1 ∙ ap (λ (n : ℕ). put_row a.row a.levels.now n a.out.now) end
