-- `full_search::full::dense_search` meets its contract.
use Prim.Native.Nat.{ℕ, ◌+◌, ◌*◌, ◌<◌}
use native.Mathlib.Omega.{arith}
use mathlib.Core.List.{List}
use mathlib.Core.Path.{◌≡◌, refl, sym, ◌∙◌, subst}
use lib.IntN.{pos, ◌-ℤ◌}
use Rattle.record.specs.declared.MotionVector.{MotionVector}
use Rattle.full_search.specs.declared.Row.{Row}
use Rattle.full_search.specs.declared.Scored.{Scored}
use Rattle.full_search.specs.Full.{dense_row_at, dense_row}
use Rattle.full_search.specs.Told.{Within}
use Rattle.full_search.specs.ToldKept.{sixteen_cost, NoMoreThanZero, StripReady}
use Rattle.full_search.proofs.Kept.{rows_small}
use Rattle.full_search.proofs.Moves.{down_within, lowered_within}
use Rattle.full_search.proofs.Near.{rows_within}
use Rattle.full_search.proofs.full.dense_search.Goals.{In-loop-j, Start}
use Rattle.full_search.proofs.full.dense_search.Goals as goal

abbrev cost_of : Start → MotionVector → ℕ
cost_of s = sixteen_cost s.args.judged

abbrev piece_of : Start → MotionVector → ℕ → List MotionVector
piece_of s = dense_row s.args.w s.args.best.vector.y

-- the best so far stays inside the window
best_within : (c : In-loop-j) → Within 1023 c.loop-j.b.vector
best_within c =
    subst (λ (b : Scored). Within 1023 b.vector) (sym c.loop-j.invariant.2)
    (rows_within (cost_of (goal.at.In-loop-j c).Start) c.args.w c.args.best.vector.y c.args.best c.loop-j.j c.requires.0.window_small c.requires.1)

-- and costs no more than zero does
best_small : (c : In-loop-j) → NoMoreThanZero (cost_of (goal.at.In-loop-j c).Start) c.loop-j.b
best_small c =
    subst (λ (b : Scored). NoMoreThanZero (cost_of (goal.at.In-loop-j c).Start) b) (sym c.loop-j.invariant.2)
    (rows_small (cost_of (goal.at.In-loop-j c).Start) (piece_of (goal.at.In-loop-j c).Start) c.args.best c.loop-j.j c.requires.0.best_small)

row_within : (w : ℕ) (v d : MotionVector) (j : ℕ) → Within 1023 d → Within 1023 v → j < 7 → Within 4096 (dense_row_at w v.y d j).from
row_within w v d j p q h =
    down_within 1026 4096 (record { x = d.x -ℤ pos 3; y = v.y -ℤ pos 3 }) j (omega arith)
    (lowered_within 1023 1026 3 d.x v.y (omega arith) p.x_above p.x_below q.y_above q.y_below)

pub dense_row-row-requires : goal.dense_row-row-requires
dense_row-row-requires c = (c.requires.1, best_within (goal.at.dense_row-row-requires c).In-loop-j, c.loop-j-test.true)

pub strip_search-b-requires : goal.strip_search-b-requires
strip_search-b-requires c =
    let k = (goal.at.strip_search-b-requires c).In-loop-j in
    let a = c.args in
    let strip = c.loop-j.strip in
    subst (λ (r : Row). StripReady a.judged strip r c.loop-j.b) (sym c.dense_row-row.ensures)
    (record {
      from_small = row_within a.w a.best.vector c.loop-j.b.vector c.loop-j.j (best_within k) c.requires.1 c.loop-j-test.true;
      run_small = omega arith;
      strip_fits = c.loop-j.invariant.1 ∙ subst (λ (n : ℕ). 368 ≡ (n + 1 * 7) * n) (sym c.requires.0.sixteen) refl;
      best_small = best_small k;
    })
