-- The refinement: what the rings keep, that it is the first of least of the sub-sample list, and that it is in range. Assumes nothing.
use Prim.Native.Nat.{ℕ, ◌/◌, ◌%◌, ◌≤◌}
use native.Mathlib.Omega.{arith}
use mathlib.Core.Bool.{Bool, true, false, cond}
use mathlib.Core.List.{[], ◌∷◌, foldl}
use mathlib.Core.Path.{◌≡◌, refl, sym, ap, ◌∙◌}
use lib.Dec.{eqb}
use Rattle.basis.specs.Least.{best, grown, FirstLeast}
use Rattle.basis.proofs.Least.{best_first}
use Rattle.basis.proofs.Each.{All, all_rows, all_grown, first_all, best_all}
use Rattle.record.specs.declared.MotionVector.{MotionVector}
use Rattle.prediction.specs.declared.BVopSampleMode.{BVopSampleMode}
use Rattle.prediction.specs.declared.BVopSampleMode.TheVariants.{HalfPel, QuarterPel}
use Rattle.prediction.specs.Luma.{units_per_pel, whole_vector}
use Rattle.full_search.specs.declared.Scored.{Scored}
use Rattle.full_search.specs.declared.Sought.{Sought}
use Rattle.full_search.specs.Costs.{consider, at_cost}
use Rattle.full_search.proofs.Kept.{search_best, search_more}
use Rattle.search.specs.declared.SearchSettings.{SearchSettings}
use Rattle.search.specs.Range.{vector_in}
use Rattle.search.specs.Sub.{stepped, neighbour, ring, ring_step, rings, start, sub_rest, sub_list, refined}
use Rattle.search.specs.Told.{Predictable, Ringed}
use Rattle.search.proofs.InRange.{clamped_in_lem, in_interpolation}

-- a sample has at most four vector units
pub units_most : (m : BVopSampleMode) → units_per_pel m ≤ 4
units_most HalfPel = omega arith
units_most (QuarterPel bpp) = omega arith

module _ (sum : MotionVector → ℕ) (s : SearchSettings) (d : MotionVector) where
  -- the best of the start and so many rings
  abbrev best_of : ℕ → Scored
  best_of n = at_cost sum (best sum (start s d) (grown sum (start s d) (λ c k. ring s.fcode (ring_step s.mode k) c) [] n))

  -- what the half ring keeps
  abbrev pub half_kept : Scored
  half_kept = foldl (consider sum) (at_cost sum (start s d)) (ring s.fcode (units_per_pel s.mode / 2) (start s d))

  -- in half mode the one ring gives the refinement
  pub refine_half : s.mode ≡ HalfPel → half_kept ≡ refined sum s d
  unfolding refined sub_rest grown best
  refine_half e =
      search_best sum (start s d) (ring s.fcode (units_per_pel s.mode / 2) (start s d))
      ∙ ap (λ (m : BVopSampleMode). best_of (rings m)) (sym e)

  -- in quarter mode the second ring, around what the first kept
  pub refine_quarter : (bpp : ℕ) → s.mode ≡ QuarterPel bpp
      → foldl (consider sum) half_kept (ring s.fcode 1 half_kept.vector) ≡ refined sum s d
  unfolding refined sub_rest grown best
  refine_quarter bpp e =
      let l = ring s.fcode (units_per_pel s.mode / 2) (start s d) in
      rw (search_best sum (start s d) l) (search_more sum (start s d) l (ring s.fcode 1 (best sum (start s d) l)))
      ∙ ap (λ (m : BVopSampleMode). best_of (rings m)) (sym e)

-- ---- the range

abbrev In : ℕ → MotionVector → Type 0
In fcode v = vector_in fcode v ≡ true

-- a neighbour is clamped
pub neighbour_in : (fcode step : ℕ) (c : MotionVector) (n : ℕ) → vector_in fcode (neighbour fcode step c n) ≡ true
neighbour_in fcode step c n = clamped_in_lem fcode (record { x = stepped c.x step (n % 3); y = stepped c.y step (n / 3) })

-- and can be predicted
pub ring_predictable : (b : Sought) (s : SearchSettings) (step : ℕ) (c : MotionVector) (n : ℕ) → Ringed b s step c
    → Predictable b s (neighbour s.fcode step c n)
ring_predictable b s step c n r =
    record {
      ready = r.ready;
      mode_usable = r.settings.mode_usable;
      vector_in_is = in_interpolation s.fcode _ r.settings.fcode_usable (neighbour_in s.fcode step c n);
    }

-- every entry of a ring is in range
pub ring_in : (fcode step : ℕ) (c : MotionVector) → All (λ v. vector_in fcode v ≡ true) (ring fcode step c)
unfolding ring All
ring_in fcode step c = all_rows (In fcode) _ 9 (λ n p. at n (eqb n 4))
  where
    at : (n : ℕ) (t : Bool) → All (In fcode) (cond t [] (neighbour fcode step c n ∷ []))
    at n true = tt
    at n false = (neighbour_in fcode step c n, tt)

-- what a ring's search keeps is in range
pub ring_best_in : (sum : MotionVector → ℕ) (fcode step : ℕ) (a : MotionVector) (s : Scored)
    → s ≡ foldl (consider sum) (at_cost sum a) (ring fcode step a) → vector_in fcode a ≡ true → vector_in fcode s.vector ≡ true
ring_best_in sum fcode step a s e p =
    let l = ring fcode step a in
    rw (e ∙ search_best sum a l) (best_all (In fcode) sum a l p (ring_in fcode step a))

module _ (sum : MotionVector → ℕ) (s : SearchSettings) (d : MotionVector) where
  pub start_in : vector_in s.fcode (start s d) ≡ true
  start_in = clamped_in_lem s.fcode (whole_vector s.mode d.x d.y)

  -- every entry of the list is in range
  pub sub_in : All (λ v. vector_in s.fcode v ≡ true) (sub_list sum s d)
  unfolding All sub_rest
  sub_in = (
    start_in,
    all_grown (In s.fcode) sum _ (λ c n. ring s.fcode (ring_step s.mode n) c) [] _ start_in tt
        (λ c n p. ring_in s.fcode (ring_step s.mode n) c),
  )

  -- the refinement's vector is the first of least of the list
  pub refined_first : FirstLeast sum (sub_list sum s d) (refined sum s d).vector
  unfolding refined
  refined_first = best_first sum (start s d) (sub_rest sum s d)

  -- in range
  pub refined_in : vector_in s.fcode (refined sum s d).vector ≡ true
  refined_in = first_all (In s.fcode) sum (sub_list sum s d) _ refined_first sub_in

  -- with its sum
  pub refined_sum : (refined sum s d).cost ≡ sum (refined sum s d).vector
  unfolding refined
  refined_sum = refl
