-- `scan::inverse_ready` meets its contract.
use borrow.Author.Rules.{rules}
use Prim.Native.Nat.{ℕ, ◌<◌}
use native.Mathlib.Omega.{arith}
use mathlib.Core.List.{List}
use mathlib.Core.Path.{◌≡◌, sym, ap, subst, ◌∙◌}
use lib.IntN.{ℤ, pos}
use lib.ListN.{length, get_or}
use Rattle.basis.specs.Lists.{tabulate}
use Rattle.basis.proofs.Lists.{filled_none, filled_set, filled_end}
use Rattle.basis.proofs.Signed.{of_bits_lem}
use Rattle.scan.specs.Grid.{entry_at, unscanned, Permutes}
use Rattle.scan.proofs.Accepted.{scan_lengths}
use Rattle.scan.proofs.Grids.{permutes}
use Rattle.scan.proofs.inverse_ready.Goals.{In-loop-p, Start}
use Rattle.scan.proofs.inverse_ready.Goals as goal

lengths : (s : Start) → (length s.args.levels.now ≡ 64) × (length s.args.out.now ≡ 64)
lengths s = scan_lengths s.args.levels.now s.args.scan (length s.args.out.now) s.requires

-- the grid is a permutation, so the place that is read from it is one of the 64
k-below : (c : In-loop-p) → entry_at c.scan_grid-grid.result c.loop-p.p < 64
k-below c =
    (subst Permutes (sym c.scan_grid-grid.ensures) (permutes c.args.scan)).entry_below c.loop-p.p c.loop-p-test.true

pub loop-p-init : goal.loop-p-init
loop-p-init c = (search rules, (lengths (goal.at.loop-p-init c).Start).1, (lengths (goal.at.loop-p-init c).Start).1, sym (filled_none _ _))

pub overflow_cast-k : goal.overflow_cast-k
overflow_cast-k c = record { fits = omega (arith, k-below (goal.at.overflow_cast-k c).In-loop-p) }

pub offset_bounds-levels-k : goal.offset_bounds-levels-k
offset_bounds-levels-k c = record { fits = omega (arith, k-below (goal.at.offset_bounds-levels-k c).In-loop-p) }

pub bounds-levels-k : goal.bounds-levels-k
bounds-levels-k c = omega (arith, k-below (goal.at.bounds-levels-k c).In-loop-p, (lengths (goal.at.bounds-levels-k c).Start).0)

pub loop-p-preserved : goal.loop-p-preserved
loop-p-preserved c =
    let l = c.loop-p in
    let xs = c.args.levels.now in
    let f : ℕ → ℤ = λ p. get_or xs (entry_at c.scan_grid-grid.result p) (pos 0) in
    let set_is = filled_set l.p f c.args.out.now l.out _ l.invariant.3 (of_bits_lem (f l.p) c.out-1.given) (omega arith) in
    (search rules, search rules, search rules, set_is)

pub returns : goal.returns
unfolding unscanned
returns c =
    let l = c.loop-p in
    let xs = c.args.levels.now in
    let f : ℕ → ℤ = λ p. get_or xs (entry_at c.scan_grid-grid.result p) (pos 0) in
    filled_end l.p f c.args.out.now l.out l.invariant.3 (omega arith)
    ∙ ap (λ (n : ℕ). tabulate n f) l.invariant.2
    ∙ ap (λ (g : List (List ℕ)). unscanned g xs) c.scan_grid-grid.ensures
