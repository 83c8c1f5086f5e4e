-- `full_search::full::full_search` meets its contract.
use Prim.Native.Nat.{ℕ}
use mathlib.Core.Path.{◌≡◌, refl, sym, ap, ◌∙◌, subst}
use Rattle.record.specs.declared.MotionVector.{MotionVector}
use Rattle.record.specs.Zero.{zero_vector}
use Rattle.full_search.specs.declared.Scored.{Scored}
use Rattle.full_search.specs.Block.{Block}
use Rattle.full_search.specs.Costs.{at_cost}
use Rattle.full_search.specs.Full.{near_rows, lattice_of}
use Rattle.full_search.specs.Won.{sixteen_best}
use Rattle.full_search.specs.Told.{Within}
use Rattle.full_search.specs.ToldKept.{kept_of, found, judged_block, sixteen_cost, NoMoreThanZero}
use Rattle.full_search.proofs.FullSearch.{full_small, full_dense, full_near}
use Rattle.full_search.proofs.Kept.{kept_small, zero_small}
use Rattle.full_search.proofs.Near.{coarse_within}
use Rattle.full_search.proofs.full.full_search.Goals.{After-lattice_search-coarse, After-near_search-near, Start}
use Rattle.full_search.proofs.full.full_search.Goals as goal

abbrev block_at : Start → Block
block_at s = judged_block s.args.judged

abbrev cost_of : Start → MotionVector → ℕ
cost_of s = sixteen_cost s.args.judged

near_small : (c : After-near_search-near) → NoMoreThanZero (cost_of (goal.at.After-near_search-near c).Start) c.near_search-near.result
near_small c =
    let cost = cost_of (goal.at.After-near_search-near c).Start in
    kept_small cost near_rows (at_cost cost zero_vector) c.near_search-near.result c.near_search-near.ensures (zero_small cost (at_cost cost zero_vector) refl)

coarse_is : (c : After-lattice_search-coarse)
    → c.lattice_search-coarse.result ≡ kept_of (cost_of (goal.at.After-lattice_search-coarse c).Start) (found (cost_of (goal.at.After-lattice_search-coarse c).Start) near_rows) (lattice_of c.args.w (block_at (goal.at.After-lattice_search-coarse c).Start))
coarse_is c =
    let s = (goal.at.After-lattice_search-coarse c).Start in
    c.lattice_search-coarse.ensures ∙ ap (λ (b : Scored). kept_of (cost_of s) b (lattice_of c.args.w (block_at s))) c.near_search-near.ensures

coarse_small : (c : After-lattice_search-coarse) → NoMoreThanZero (cost_of (goal.at.After-lattice_search-coarse c).Start) c.lattice_search-coarse.result
coarse_small c =
    let s = (goal.at.After-lattice_search-coarse c).Start in
    kept_small (cost_of s) (lattice_of c.args.w (block_at s)) c.near_search-near.result c.lattice_search-coarse.result c.lattice_search-coarse.ensures
    (near_small (goal.at.After-lattice_search-coarse c).After-near_search-near)

pub returns-then-fcode-le1 : goal.returns-then-fcode-le1
unfolding sixteen_best
returns-then-fcode-le1 c =
    let s = (goal.at.returns-then-fcode-le1 c).Start in
    c.near_search-near.ensures ∙ full_small (cost_of s) c.args.fcode c.args.w (block_at s) c.if-fcode-le1.true

pub lattice_search-coarse-requires : goal.lattice_search-coarse-requires
lattice_search-coarse-requires c =
    record { sixteen = c.requires.0; window_small = c.requires.1; best_small = near_small (goal.at.lattice_search-coarse-requires c).After-near_search-near }

pub dense_search-requires : goal.dense_search-requires
dense_search-requires c =
    let k = (goal.at.dense_search-requires c).After-lattice_search-coarse in
    let s = (goal.at.dense_search-requires c).Start in (
      record { sixteen = c.requires.0; window_small = c.requires.1; best_small = coarse_small k },
      subst (λ (b : Scored). Within 1023 b.vector) (sym (coarse_is k)) (coarse_within (cost_of s) c.args.w (block_at s) c.requires.1),
    )

pub returns-then-coarse-near : goal.returns-then-coarse-near
unfolding sixteen_best
returns-then-coarse-near c =
    let s = (goal.at.returns-then-coarse-near c).Start in
    c.dense_search.ensures
    ∙ full_dense (cost_of s) c.args.fcode c.args.w (block_at s) c.if-fcode-le1.false c.near_search-near.result c.lattice_search-coarse.result
    c.near_search-near.ensures c.lattice_search-coarse.ensures c.if-coarse-near.true

pub returns : goal.returns
unfolding sixteen_best
returns c =
    let s = (goal.at.returns c).Start in
    full_near (cost_of s) c.args.fcode c.args.w (block_at s) c.if-fcode-le1.false c.near_search-near.result c.lattice_search-coarse.result
    c.near_search-near.ensures c.lattice_search-coarse.ensures c.if-coarse-near.false
