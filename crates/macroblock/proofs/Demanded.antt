-- DEMAND 3 holds of the answer to every request that is not refused. Assumes nothing.
use Prim.Native.Nat.{ℕ, ◌≤◌, ◌<◌}
use mathlib.Core.Bool.{false}
use mathlib.Core.List.{List, []}
use mathlib.Core.Path.{◌≡◌, refl, sym, ap, subst, ◌∙◌}
use borrow.Author.Tests.{eq-eqb}
use lib.Dec.{eqb}
use lib.IntN.{ℤ, pos, nat_abs, ◌-ℤ◌}
use lib.ListN.{get_or, replicate}
use Rattle.basis.specs.Lists.{tabulate}
use Rattle.basis.proofs.Case.{then}
use Rattle.basis.proofs.Lists.{get_or-tabulate}
use Rattle.refusal.specs.Reply.{Reply}
use Rattle.std.specs.Prelude.{Ok}
use Rattle.record.specs.declared.MotionVector.{MotionVector}
use Rattle.record.specs.declared.Record.{Record}
use Rattle.record.specs.Zero.{zero_vector}
use Rattle.plane.specs.Source.{eight_of}
use Rattle.quantise.specs.Level.{inverse_by_quantiser}
use Rattle.quantise.specs.Near.{Near, tolerance}
use Rattle.full_search.specs.Block.{eight}
use Rattle.search.specs.declared.EstimatedFour.{EstimatedFour}
use Rattle.search.specs.declared.SearchSettings.{SearchSettings}
use Rattle.search.specs.Demand.{OneVector, BlockVector, OneFound, BlockFound}
use Rattle.search.specs.Estimate.{one_vector}
use Rattle.search.proofs.Demanded.{one_vector_lem, four_vectors}
use Rattle.reader.specs.Luma.{eight_by, four_luma}
use Rattle.reader.specs.Levels.{read_levels, read_inverse}
use Rattle.coding.specs.Coding.{levels_of, areas_of}
use Rattle.coding.specs.Told.{Quantisable}
use Rattle.coding.proofs.Levels.{levels-back}
use Rattle.coding.proofs.Nearness.{all_near}
use Rattle.macroblock.specs.Request.{Request, source, residual, search_in, sought_in, quantising_in, reply_of}
use Rattle.macroblock.specs.Answer.{Answer, four_of, searched_of, record_at, answer_by, answer_of}
use Rattle.macroblock.specs.Demand.{Demand, handed, sum_over, one_sum, block_sum, coefficient_at, read_level_at, read_inverse_at}
use Rattle.macroblock.proofs.Answers.{given, done_answer}
use Rattle.macroblock.proofs.Accepted.{accepted}
use Rattle.macroblock.proofs.Sums.{one_sums, block_sums}

-- the answer of a call that is not refused, at a rounding type
abbrev pub made : ℕ → Request → Answer
made rounding q = given (record_at rounding q) (areas_of (quantising_in q) (residual q))

module _ (rounding : ℕ) (q : Request) where
  abbrev settings : SearchSettings
  settings = search_in rounding q.settings

  abbrev coded : Record
  coded = record_at rounding q

  abbrev answer : Answer
  answer = made rounding q

-- ---- one vector

module _ (rounding : ℕ) (q : Request) where
  one_is : OneVector (settings rounding q) (sought_in q) (coded rounding q).vector (coded rounding q).sum
  unfolding record_at searched_of
  one_is = one_vector_lem (settings rounding q) (sought_in q)

  one_reads : (coded rounding q).sum ≡ one_sum rounding q (answer rounding q) (coded rounding q).vector
  one_reads =
      one_is.sum_is ∙ ap (λ (s : MotionVector → ℕ). s (coded rounding q).vector) (sym (one_sums rounding q (answer rounding q)))

  one_there : OneFound (settings rounding q) (sought_in q) (one_sum rounding q (answer rounding q)) (coded rounding q).vector
  one_there =
      subst (λ (s : MotionVector → ℕ). OneFound (settings rounding q) (sought_in q) s (coded rounding q).vector)
      (sym (one_sums rounding q (answer rounding q))) one_is.found

-- ---- each of four, where four were searched for

module _ (rounding : ℕ) (q : Request) (e : q.settings.vectors ≡ 4) where
  -- what was searched for, and the vector that seeded it
  abbrev four : EstimatedFour
  four = four_of (settings rounding q) (sought_in q)

  abbrev seed : MotionVector
  seed = (one_vector (settings rounding q) (sought_in q)).vector

  vectors_are : (coded rounding q).vectors ≡ four.vectors
  unfolding record_at searched_of
  vectors_are = then (eqb q.settings.vectors 4) four.vectors (replicate 4 zero_vector) (eq-eqb q.settings.vectors 4 e)

  sums_are : (coded rounding q).sums ≡ four.sums
  unfolding record_at searched_of
  sums_are = then (eqb q.settings.vectors 4) four.sums (replicate 4 0) (eq-eqb q.settings.vectors 4 e)

  module _ (n : ℕ) (h : n < 4) where
    -- block n's vector
    abbrev vector : MotionVector
    vector = get_or (coded rounding q).vectors n zero_vector

    block_is : BlockVector (settings rounding q) seed (eight (sought_in q) n) vector (get_or (coded rounding q).sums n 0)
    block_is = rw (vectors_are, sums_are) ((four_vectors (settings rounding q) seed (sought_in q)).each n h)

    luma_read : get_or (four_luma rounding (handed q (answer rounding q))) n [] ≡ eight_by rounding (handed q (answer rounding q)) n vector
    luma_read =
        let each : ℕ → List ℕ = λ k. eight_by rounding (handed q (answer rounding q)) k (get_or (coded rounding q).vectors k zero_vector) in
        ap (λ (l : List (List ℕ)). get_or l n []) (then (eqb q.settings.vectors 4) (tabulate 4 each) [] (eq-eqb q.settings.vectors 4 e))
        ∙ get_or-tabulate 4 each n [] h

    block_reads : get_or (coded rounding q).sums n 0
        ≡ sum_over 8 (eight_of (source q).y n) (get_or (four_luma rounding (handed q (answer rounding q))) n [])
    block_reads =
        block_is.sum_is
        ∙ ap (λ (s : MotionVector → ℕ). s vector) (sym (block_sums rounding q (answer rounding q) n h))
        ∙ ap (sum_over 8 (eight_of (source q).y n)) (sym luma_read)

    block_there : BlockFound (settings rounding q) (coded rounding q).vector (block_sum rounding q (answer rounding q) n) vector
    unfolding record_at searched_of
    block_there =
        subst (λ (s : MotionVector → ℕ). BlockFound (settings rounding q) (coded rounding q).vector s vector)
        (sym (block_sums rounding q (answer rounding q) n h)) block_is.found

-- ---- levels

module _ (rounding : ℕ) (q : Request) where
  levels_read : read_levels (handed q (answer rounding q)) ≡ levels_of (quantising_in q) (residual q)
  unfolding record_at
  levels_read = levels-back (quantising_in q) (residual q) (handed q (answer rounding q)) refl refl refl refl

  inverse_read : (i : ℕ) → i < 384
      → read_inverse_at q (answer rounding q) i ≡ inverse_by_quantiser q.settings.quantiser (read_level_at q (answer rounding q) i)
  unfolding read_inverse
  inverse_read i h =
      let at : ℕ → ℤ = λ i. inverse_by_quantiser q.settings.quantiser (get_or (read_levels (handed q (answer rounding q))) i (pos 0)) in
      get_or-tabulate 384 at i (pos 0) h

  level_near : Quantisable (quantising_in q) → q.settings.first_method ≡ false → (i : ℕ) → i < 384
      → Near q.settings.quantiser (coefficient_at q i) (read_level_at q (answer rounding q) i)
  level_near set second i h =
      subst (Near q.settings.quantiser (coefficient_at q i)) (ap (λ (l : List ℤ). get_or l i (pos 0)) (sym levels_read))
      (all_near (quantising_in q) set second (residual q) i h)

  level_kept : Quantisable (quantising_in q) → q.settings.first_method ≡ false → (i : ℕ) → i < 384
      → (read_level_at q (answer rounding q) i ≡ pos 0 → ⊥)
      → nat_abs (read_inverse_at q (answer rounding q) i -ℤ coefficient_at q i) ≤ tolerance q.settings.quantiser
  level_kept set second i h some =
      subst (λ (z : ℤ). nat_abs (z -ℤ coefficient_at q i) ≤ tolerance q.settings.quantiser) (sym (inverse_read i h))
      ((level_near set second i h).kept some)

  made_demanded : Quantisable (quantising_in q) → Demand rounding q (answer rounding q)
  made_demanded set =
      record {
        one_sum_is = one_reads rounding q;
        one_found = one_there rounding q;
        four_sums = block_reads rounding q;
        four_found_is = block_there rounding q;
        levels = levels_read;
        near = level_kept set;
        dropped = λ second i h none. (level_near set second i h).dropped none;
      }

-- of whatever reply let it be coded
pub demanded_by : (q : Request) (r : Reply) → r ≡ Ok tt → Quantisable (quantising_in q) → Demand 0 q (answer_by r q)
demanded_by q r e set = subst (Demand 0 q) (done_answer q r _ _ e refl refl) (made_demanded 0 q set)

-- THE THEOREM
pub demanded : (q : Request) → reply_of q ≡ Ok tt → Demand 0 q (answer_of q)
demanded q e = demanded_by q (reply_of q) e (accepted q e).quantisable
