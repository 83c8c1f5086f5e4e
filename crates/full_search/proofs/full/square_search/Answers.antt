-- `full_search::full::square_search` meets its contract.
use Prim.Native.Nat.{ℕ, ◌+◌, ◌-◌, ◌*◌, ◌≤◌, ◌<◌}
use native.Mathlib.Omega.{arith}
use mathlib.Core.Path.{sym, subst}
use Rattle.plane.specs.declared.Point.{Point}
use Rattle.full_search.specs.declared.Lines.{Lines}
use Rattle.full_search.specs.declared.Row.{Row}
use Rattle.full_search.specs.Told.{moved_to}
use Rattle.full_search.specs.ToldKept.{judged_block}
use Rattle.full_search.specs.ToldPatch.{RowReady}
use Rattle.full_search.proofs.Moves.{down_within}
use Rattle.full_search.proofs.Patches.{copy_length, patch_room}
use Rattle.full_search.proofs.Sides.{side_least}
use Rattle.full_search.proofs.full.square_search.Goals.{After-copy_from, In-loop-j, Start}
use Rattle.full_search.proofs.full.square_search.Goals as goal

abbrev start : After-copy_from → Start
start c = (goal.at.After-copy_from c).Start

abbrev copied : In-loop-j → After-copy_from
copied c = (goal.at.In-loop-j c).After-copy_from

abbrev width_of : Start → ℕ
width_of s = s.args.judged.sought.target.side + s.args.square.count - 1

abbrev first_place : Start → Point
first_place s = moved_to s.args.judged.sought.target.corner s.args.square.from

-- a row's places lie within the patch
room : (c : In-loop-j) (k : ℕ) → k < (start (copied c)).args.square.count
    → let side = (start (copied c)).args.judged.sought.target.side in
    let w = width_of (start (copied c)) in
    c.loop-j.j * w + k + (side - 1) * w + side ≤ w * w
room c k h =
    let s = start (copied c) in
    let side = s.args.judged.sought.target.side in
    let w = width_of s in
    patch_room w w side c.loop-j.j k (side_least side s.args.judged.ready.is_side_is) (omega (arith, c.loop-j-test.true)) (omega (arith, h))

pub row_search-b-requires : goal.row_search-b-requires
row_search-b-requires c =
    let k = (goal.at.row_search-b-requires c).After-copy_from in
    let s = start k in
    let a = s.args in
    let side = a.judged.sought.target.side in
    let long = copy_length (judged_block a.judged).reference (first_place s) (width_of s) (width_of s) _ c.copy_from.ensures in
    let patch = c.copy_from.new.out in
    let lines : Lines = record { first = c.loop-j.j * width_of s; stride = width_of s } in
    subst (λ (r : Row). RowReady side a.judged.sought.source.now patch lines r) (sym c.square_row-row.ensures)
    (record {
      is_side_is = a.judged.ready.is_side_is;
      source_fits = a.judged.ready.source_fits;
      fits = λ i h. omega (arith, long, room (goal.at.row_search-b-requires c).In-loop-j i h);
      from_small = down_within 4000 4096 a.square.from c.loop-j.j (omega (arith, c.loop-j-test.true, s.requires.few)) s.requires.from_small;
      run_small = omega (arith, s.requires.few);
    })
