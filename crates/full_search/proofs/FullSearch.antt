-- The full-sample searches: what the rows, the lattice and the dense pass keep is the winner of the one list. Assumes nothing.
use Prim.Native.Nat.{ℕ, ◌≤◌, ◌<◌}
use native.Mathlib.Omega.{arith}
use mathlib.Core.Bool.{true, false}
use mathlib.Core.Path.{◌≡◌, sym, ap, ◌∙◌}
use lib.Dec.{ltb}
use borrow.Author.Tests.{ltb-true, lt-ltb, le-ltb}
use Rattle.basis.specs.Least.{FirstLeast}
use Rattle.basis.proofs.Least.{best_first}
use Rattle.record.specs.declared.MotionVector.{MotionVector}
use Rattle.record.specs.Zero.{zero_vector}
use Rattle.prediction.specs.declared.BVopSampleMode.{BVopSampleMode}
use Rattle.full_search.specs.declared.Scored.{Scored}
use Rattle.full_search.specs.Places.{square_of}
use Rattle.full_search.specs.Block.{Block}
use Rattle.full_search.specs.Costs.{at_cost}
use Rattle.full_search.specs.Full.{near_rows, near_best, dense_row, lattice_of, coarse, coarse_best}
use Rattle.full_search.specs.Full.{full_rest, full_list, full_winner, seed_square, four_rest, four_list, four_winner}
use Rattle.full_search.specs.ToldKept.{kept_of, found, kept_rows}
use Rattle.full_search.proofs.Kept.{search_best, search_more, kept-start, kept_rows-best}

module _ (cost : MotionVector → ℕ) (w : ℕ) (b : Block) where
  near_is : found cost near_rows ≡ at_cost cost (near_best cost)
  near_is = search_best cost zero_vector near_rows

  lattice_is : kept_of cost (at_cost cost (near_best cost)) (lattice_of w b) ≡ at_cost cost (coarse_best cost w b)
  lattice_is = search_more cost zero_vector near_rows (lattice_of w b)

  -- the lattice lost where the cost did not fall: the winner is still that of the rows
  pub lattice_lost : ltb (cost (coarse_best cost w b)) (cost (near_best cost)) ≡ false → coarse_best cost w b ≡ near_best cost
  lattice_lost e = ap (λ (s : Scored). s.vector) (sym lattice_is ∙ kept-start cost (lattice_of w b) (at_cost cost (near_best cost)) (rw lattice_is e))

  -- For the reader: it won where the cost fell, and the winner is another.
  pub lattice-won : ltb (cost (coarse_best cost w b)) (cost (near_best cost)) ≡ true → coarse_best cost w b ≡ near_best cost → ⊥
  lattice-won e d = omega (arith, ltb-true (cost (coarse_best cost w b)) (cost (near_best cost)) e, ap cost d)

module _ (cost : MotionVector → ℕ) (fcode w : ℕ) (b : Block) where
  -- for fcode 1 the rows are all
  pub full_small : fcode ≤ 1 → found cost near_rows ≡ at_cost cost (full_winner cost fcode w b)
  unfolding full_winner full_rest
  full_small h = rw (le-ltb 1 fcode h) (near_is cost w b)

  module _ (h : 1 < fcode) (n c : Scored) (en : n ≡ found cost near_rows) (ec : c ≡ kept_of cost n (lattice_of w b)) where
    n_is : n ≡ at_cost cost (near_best cost)
    n_is = en ∙ near_is cost w b

    c_is : c ≡ at_cost cost (coarse_best cost w b)
    c_is = ec ∙ rw n_is (lattice_is cost w b)

    costs : (n.cost ≡ cost (near_best cost)) × (c.cost ≡ cost (coarse_best cost w b))
    costs = (ap (λ (s : Scored). s.cost) n_is, ap (λ (s : Scored). s.cost) c_is)

    -- fcode above 1, and the lattice won: the dense pass
    pub full_dense : c.cost < n.cost → kept_rows cost (dense_row w c.vector.y) c 7 ≡ at_cost cost (full_winner cost fcode w b)
    unfolding full_winner full_rest
    full_dense f =
        let t : ltb (cost (coarse_best cost w b)) (cost (near_best cost)) ≡ true =
        lt-ltb (cost (coarse_best cost w b)) (cost (near_best cost)) (omega (arith, costs.0, costs.1)) in
        rw (c_is, lt-ltb 1 fcode h, t) (kept_rows-best cost (dense_row w (coarse_best cost w b).y) zero_vector (coarse w b) 7)

    -- the lattice lost: what the rows kept
    pub full_near : n.cost ≤ c.cost → n ≡ at_cost cost (full_winner cost fcode w b)
    unfolding full_winner full_rest
    full_near f =
        let t : ltb (cost (coarse_best cost w b)) (cost (near_best cost)) ≡ false =
        le-ltb (cost (coarse_best cost w b)) (cost (near_best cost)) (omega (arith, costs.0, costs.1)) in
        rw (lt-ltb 1 fcode h, t) (n_is ∙ ap (at_cost cost) (sym (lattice_lost cost w b t)))

  -- the winner is the first of least of the list
  pub winner_first : FirstLeast cost (full_list cost fcode w b) (full_winner cost fcode w b)
  unfolding full_winner
  winner_first = best_first cost zero_vector (full_rest cost fcode w b)

module _ (cost : MotionVector → ℕ) (w : ℕ) (m : BVopSampleMode) (seed : MotionVector) where
  -- of one of four
  pub four_is : found cost (square_of (seed_square w m seed)) ≡ at_cost cost (four_winner cost w m seed)
  unfolding four_winner four_rest
  four_is = search_best cost zero_vector (square_of (seed_square w m seed))

  pub four_first : FirstLeast cost (four_list w m seed) (four_winner cost w m seed)
  unfolding four_winner
  four_first = best_first cost zero_vector (four_rest w m seed)
