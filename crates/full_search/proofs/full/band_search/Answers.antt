-- `full_search::full::band_search` meets its contract.
use Prim.Native.Nat.{ℕ, ◌+◌, ◌-◌, ◌*◌, ◌≤◌}
use native.Mathlib.Nat.{mul-le-mul_left}
use native.Mathlib.Omega.{arith}
use mathlib.Core.Path.{◌≡◌, refl, sym, subst}
use lib.ListN.{length}
use Rattle.plane.specs.declared.Point.{Point}
use Rattle.full_search.specs.declared.Lines.{Lines}
use Rattle.full_search.specs.declared.Row.{Row}
use Rattle.full_search.specs.Costs.{zero_discount}
use Rattle.full_search.specs.Told.{moved_to}
use Rattle.full_search.specs.ToldKept.{judged_block}
use Rattle.full_search.specs.ToldPatch.{RowReady}
use Rattle.full_search.proofs.Moves.{down_within}
use Rattle.full_search.proofs.OnPatches.{rows_none, rows_more}
use Rattle.full_search.proofs.Patches.{copy_length, patch_room, strip_columns}
use Rattle.full_search.proofs.full.band_search.Invariants.{line_of}
use Rattle.full_search.proofs.full.band_search.Goals.{After-copy_from, In-loop-i, Start}
use Rattle.full_search.proofs.full.band_search.Goals as goal

abbrev start : After-copy_from → Start
start c = (goal.at.After-copy_from c).Start

abbrev copied : In-loop-i → After-copy_from
copied c = (goal.at.In-loop-i c).After-copy_from

abbrev width_of : Start → ℕ
width_of s = 16 + s.args.first.step * s.args.first.count

abbrev first_place : Start → Point
first_place s = moved_to s.args.judged.sought.target.corner s.args.first.from

-- a row's places lie within the band
room : (c : In-loop-i) (k : ℕ) → k ≤ (start (copied c)).args.first.count
    → let s = start (copied c) in
    let w = width_of s in
    4 * c.loop-i.i * w + s.args.first.step * k + (16 - 1) * w + 16 ≤ 28 * w
room c k h =
    let s = start (copied c) in
    let w = width_of s in
    let step = s.args.first.step in
    patch_room w 28 16 (4 * c.loop-i.i) (step * k) (omega arith) (omega (arith, c.loop-i-test.true, s.requires.few))
    (omega (arith, mul-le-mul_left step h))

pub loop-i-init : goal.loop-i-init
loop-i-init c =
    let a = c.args in
    (omega arith, rows_none 16 a.judged.sought.source.now _ a.first.from (width_of (goal.at.loop-i-init c).Start) 28 zero_discount (line_of a.first) a.best)

pub sixteen_row-b-requires : goal.sixteen_row-b-requires
sixteen_row-b-requires c =
    let s = start (goal.at.sixteen_row-b-requires c).After-copy_from in
    let a = s.args in
    let i = c.loop-i.i in
    let long = copy_length (judged_block a.judged).reference (first_place s) (width_of s) 28 _ c.copy_from.ensures in
    let band = c.copy_from.new.out in
    let lines : Lines = record { first = 4 * i * width_of s; stride = width_of s } in
    subst (λ (r : Row). RowReady 16 a.judged.sought.source.now band lines r) (sym c.row_below-row.ensures)
    (record {
      is_side_is = refl;
      source_fits = subst (λ (n : ℕ). length a.judged.sought.source.now ≡ n * n) s.requires.sixteen a.judged.ready.source_fits;
      fits = λ j h. omega (arith, long, room (goal.at.sixteen_row-b-requires c).In-loop-i j (omega (arith, h)));
      from_small = down_within 4000 4096 a.first.from (4 * i) (omega (arith, c.loop-i-test.true, s.requires.few)) s.requires.from_small;
      run_small = omega (arith, s.requires.run_small);
    })

pub loop-i-preserved : goal.loop-i-preserved
loop-i-preserved c =
    let s = start (goal.at.loop-i-preserved c).After-copy_from in
    let a = s.args in
    let i = c.loop-i.i in (
      omega (arith, c.loop-i-test.true),
      rows_more 16 a.judged.sought.source.now _ a.first.from (width_of s) 28 zero_discount (line_of a.first) a.best i (4 * i) c.row_below-row.result
          c.loop-i.b c.sixteen_row-b.result (omega (arith, c.loop-i-test.true, s.requires.few))
          (strip_columns 16 a.first.step a.first.count) refl c.row_below-row.ensures c.loop-i.invariant.1 c.sixteen_row-b.ensures,
    )
