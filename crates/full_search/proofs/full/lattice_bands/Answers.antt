-- `full_search::full::lattice_bands` meets its contract.
use Prim.Native.Nat.{ℕ, ◌+◌, ◌*◌, ◌≤◌, min}
use native.Mathlib.Omega.{arith}
use mathlib.Core.Path.{◌≡◌, refl, sym, ap, ◌∙◌, subst}
use lib.ListN.{length, take, length-take, length-drop, length-append}
use Rattle.basis.specs.Lists.{rows}
use Rattle.record.specs.declared.MotionVector.{MotionVector}
use Rattle.full_search.specs.declared.Row.{Row}
use Rattle.full_search.specs.ToldKept.{kept_of, sixteen_cost, rows_below, BandReady}
use Rattle.full_search.proofs.Kept.{kept_small}
use Rattle.full_search.proofs.Lattice.{band_more}
use Rattle.full_search.proofs.Moves.{down_within}
use Rattle.full_search.proofs.full.lattice_bands.Goals.{After-band_search-b, In-loop-j, Start}
use Rattle.full_search.proofs.full.lattice_bands.Goals as goal

abbrev cost_of : Start → MotionVector → ℕ
cost_of s = sixteen_cost s.args.judged

abbrev size_of : Start → ℕ
size_of s = (16 + s.args.first.step * s.args.first.count) * 28

-- what the rows before j keep
so_far : (c : In-loop-j) → c.loop-j.b ≡ kept_of (cost_of (goal.at.In-loop-j c).Start) c.args.best (rows_below c.args.first c.loop-j.j)
so_far c = c.loop-j.invariant.1 ∙ ap (λ (n : ℕ). kept_of (cost_of (goal.at.In-loop-j c).Start) c.args.best (rows_below c.args.first n)) (omega (arith, c.loop-j-test.true))

pub loop-j-init : goal.loop-j-init
unfolding rows
loop-j-init c =
    let e : min 0 c.args.lines ≡ 0 = omega arith in
    (refl, rw e)

-- there is room for a band
room : (c : In-loop-j) → size_of (goal.at.In-loop-j c).Start ≤ length c.loop-j.band
room c = omega (arith, c.requires.1, c.loop-j.invariant.0)

pub band_search-b-requires : goal.band_search-b-requires
band_search-b-requires c =
    let s = (goal.at.band_search-b-requires c).Start in
    let k = (goal.at.band_search-b-requires c).In-loop-j in
    let a = c.args in
    let r = c.requires.0 in
    let j = c.loop-j.j in
    let fits = room k in
    let part = take (size_of s) c.loop-j.band in
    subst (λ (r : Row). BandReady a.judged part r c.min-n.result c.loop-j.b)
    (sym c.row_below-row.ensures)
    (record {
      sixteen = r.sixteen;
      from_small = down_within 1023 4000 a.first.from (4 * j) (omega (arith, c.loop-j-test.true, r.few)) r.from_small;
      run_small = r.run_small;
      few = omega (arith, c.min-n.ensures);
      band_fits = omega (arith, length-take (size_of s) c.loop-j.band);
      best_small = kept_small (cost_of s) (rows_below a.first j) a.best c.loop-j.b (so_far k) r.best_small;
    })

-- and what those of its band keep too
more : (c : After-band_search-b)
    → c.band_search-b.result ≡ kept_of (cost_of (goal.at.After-band_search-b c).Start) c.args.best (rows_below c.args.first (c.loop-j.j + c.min-n.result))
more c =
    let cost = cost_of (goal.at.After-band_search-b c).Start in
    band_more cost c.args.best c.loop-j.b c.band_search-b.result c.args.first c.loop-j.j c.min-n.result (so_far (goal.at.After-band_search-b c).In-loop-j)
    (c.band_search-b.ensures ∙ ap (λ (r : Row). kept_of cost c.loop-j.b (rows_below r c.min-n.result)) c.row_below-row.ensures)

pub loop-j-preserved : goal.loop-j-preserved
loop-j-preserved c =
    let s = (goal.at.loop-j-preserved c).Start in
    let k = (goal.at.loop-j-preserved c).After-band_search-b in
    let fits = room (goal.at.loop-j-preserved c).In-loop-j in (
      omega (arith, length-append {A = ℕ}, length-drop {A = ℕ}, length-take {A = ℕ}, c.band_search-b.auto.band, c.loop-j.invariant.0),
      more k ∙ ap (λ (n : ℕ). kept_of (cost_of s) c.args.best (rows_below c.args.first n)) (omega (arith, c.min-n.ensures)),
    )

pub returns-2 : goal.returns-2
returns-2 c =
    more (goal.at.returns-2 c).After-band_search-b
    ∙ ap (λ (n : ℕ). kept_of (cost_of (goal.at.returns-2 c).Start) c.args.best (rows_below c.args.first n)) (omega (arith, c.min-n.ensures))
