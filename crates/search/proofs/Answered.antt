-- When the two searches are not refused, and what they then answer. Assumes nothing.
use mathlib.Core.Bool.{true}
use mathlib.Core.Path.{◌≡◌, refl, sym, ap}
use lib.ListN.{length}
use Rattle.refusal.specs.declared.Refusal.TheVariants.{Seed}
use Rattle.refusal.specs.Reply.{Reply, answer}
use Rattle.std.specs.Prelude.{Ok}
use Rattle.refusal.proofs.Replies.{passed, both_done}
use Rattle.record.specs.declared.MotionVector.{MotionVector}
use Rattle.plane.specs.Reference.{reference_reply}
use Rattle.plane.specs.Source.{source_luma_reply}
use Rattle.search.specs.Range.{vector_in}
use Rattle.search.specs.Request.{SearchRequest, settings_in, sought, settings_reply, search_reply, seed_reply, four_reply}
use Rattle.search.specs.Estimate.{one_vector, four_vectors_of, estimated, estimate_motion, estimate_four}

module _ (q : SearchRequest) where
  pub search_taken : settings_reply q.fcode q.mode q.bpp ≡ Ok tt → reference_reply q.geometry (length q.reference) ≡ Ok tt
      → source_luma_reply q.size (length q.source) q.place ≡ Ok tt → search_reply q ≡ Ok tt
  unfolding search_reply
  search_taken e f h = both_done e (both_done f h)

  pub four_taken : (seed : MotionVector) → search_reply q ≡ Ok tt → vector_in q.fcode seed ≡ true → four_reply q seed ≡ Ok tt
  unfolding four_reply seed_reply
  four_taken seed e h = both_done e (passed (vector_in q.fcode seed) Seed h refl)

  -- what is answered, by the reply
  pub one_by : {r : Reply} → r ≡ search_reply q → estimated r (one_vector (settings_in 0 q) (sought q)) ≡ estimate_motion q
  unfolding estimate_motion
  one_by e = ap (λ (r : Reply). estimated r (one_vector (settings_in 0 q) (sought q))) e

  pub four_by : (seed : MotionVector) {r : Reply} → r ≡ four_reply q seed
      → answer r (four_vectors_of (settings_in 0 q) seed (sought q)) ≡ estimate_four q seed
  unfolding estimate_four
  four_by seed e = ap (λ (r : Reply). answer r (four_vectors_of (settings_in 0 q) seed (sought q))) e

  -- where it is not refused
  pub one_answered : search_reply q ≡ Ok tt → estimate_motion q ≡ estimated (Ok tt) (one_vector (settings_in 0 q) (sought q))
  one_answered e = sym (one_by (sym e))

  pub four_answered : (seed : MotionVector) → four_reply q seed ≡ Ok tt → estimate_four q seed ≡ Ok (four_vectors_of (settings_in 0 q) seed (sought q))
  four_answered seed e = sym (four_by seed (sym e))
