-- What holds of a request whose prediction is made here and that is not refused. Assumes nothing.
use Prim.Native.Nat.{ℕ, ◌<◌}
use native.Mathlib.Omega.{arith}
use mathlib.Core.Bool.{Bool, true, false, ◌&&◌}
use mathlib.Core.Path.{◌≡◌, refl}
use borrow.Author.Tests.{eqb-true}
use lib.Dec.{eqb}
use lib.ListN.{length, get_or, replicate}
use Rattle.basis.proofs.Case.{both, then}
use Rattle.refusal.specs.declared.Refusal.TheVariants.{Length}
use Rattle.std.specs.Prelude.{Ok}
use Rattle.refusal.specs.Reply.{unless, and_then}
use Rattle.refusal.proofs.Replies.{first_done, then_done, unless-done}
use Rattle.refusal.proofs.Tests.{and_left, and_right}
use Rattle.record.specs.Zero.{zero_vector}
use Rattle.plane.specs.Reference.{vector_in_range}
use Rattle.plane.specs.Source.{source_reply}
use Rattle.plane.proofs.ReadySource.{luma_alone}
use Rattle.prediction.specs.declared.PlaneLengths.{PlaneLengths}
use Rattle.prediction.specs.Luma.{mode_of, rounding_reply}
use Rattle.prediction.specs.Chroma.{motion_in_range}
use Rattle.prediction.specs.Planes.{lengths_in, planes_reply}
use Rattle.prediction.specs.Prediction.{motion_of, prediction_reply}
use Rattle.prediction.proofs.PredictionReady.{planes_ready, prediction_done}
use Rattle.quantise.specs.Block.{weight_reply}
use Rattle.search.specs.declared.SearchSettings.{SearchSettings}
use Rattle.search.specs.Request.{settings_reply, search_reply}
use Rattle.search.specs.Estimate.{one_vector}
use Rattle.search.specs.Told.{Set}
use Rattle.search.proofs.Answered.{search_taken}
use Rattle.search.proofs.Demanded.{one_vector_lem, four_vectors}
use Rattle.search.proofs.InRange.{in_interpolation}
use Rattle.search.proofs.Judge.{search_set, column_most, row_most}
use Rattle.full_search.specs.Block.{Block}
use Rattle.coding.specs.Told.{Quantisable}
use Rattle.macroblock.specs.declared.Searched.{Searched}
use Rattle.macroblock.specs.Request.{search_in, sought_in, quantising_in, areas_long, choice_reply}
use Rattle.macroblock.specs.Answer.{four_of, searched_of}
use Rattle.macroblock.specs.Predicted.{PredictedRequest, found_in, predicting, predicted_reply, predicted_reply_of}
use Rattle.macroblock.proofs.Accepted.{searched_for, scan_known}

-- ---- the vectors found can be predicted by

module _ (count : ℕ) (s : SearchSettings) (b : Block) (set : Set s) where
  abbrev found : Searched
  found = searched_of count s b

  one_usable : vector_in_range found.vector ≡ true
  unfolding searched_of
  one_usable = in_interpolation s.fcode found.vector set.fcode_usable (one_vector_lem s b).found.in_range_is

  four_usable : eqb count 4 ≡ true → (n : ℕ) → n < 4 → vector_in_range (get_or found.vectors n zero_vector) ≡ true
  unfolding searched_of
  four_usable e n h =
      let seed = (one_vector s b).vector in
      let are = then (eqb count 4) (four_of s b).vectors (replicate 4 zero_vector) e in
      rw are
      (in_interpolation s.fcode (get_or (four_of s b).vectors n zero_vector) set.fcode_usable
      ((four_vectors s seed b).each n h).found.in_range_is)

  found_usable : motion_in_range (motion_of count found.vector found.vectors) ≡ true
  found_usable = by (eqb count 4) refl
    where
      by : (t : Bool) → eqb count 4 ≡ t → motion_in_range (motion_of count found.vector found.vectors) ≡ true
      by true e =
          rw e
          (both (four_usable e 0 (omega arith))
          (both (four_usable e 1 (omega arith)) (both (four_usable e 2 (omega arith)) (four_usable e 3 (omega arith)))))
      by false e = rw e one_usable

-- ---- 12

pub record Long (n : PredictedRequest) : Type 0 where
  pub weights : length n.weights ≡ 64
  pub lasts : length n.areas.lasts ≡ 384
  pub runs : length n.areas.runs ≡ 384
  pub levels : length n.areas.levels ≡ 384

long : (n : PredictedRequest)
    → areas_long (length n.weights) (length n.areas.lasts) (length n.areas.runs) (length n.areas.levels) ≡ true → Long n
long n e =
    let w = eqb (length n.weights) 64 in
    let a = eqb (length n.areas.lasts) 384 in
    let b = eqb (length n.areas.runs) 384 in
    let c = eqb (length n.areas.levels) 384 in
    let rest = and_right w (a && (b && c)) e in
    record {
      weights = eqb-true _ 64 (and_left w (a && (b && c)) e);
      lasts = eqb-true _ 384 (and_left a (b && c) rest);
      runs = eqb-true _ 384 (and_left b c (and_right a (b && c) rest));
      levels = eqb-true _ 384 (and_right b c (and_right a (b && c) rest));
    }

-- ---- what each part of the work asks

-- three areas of 256, 64 and 64
abbrev pub whole_lengths : PlaneLengths
whole_lengths = record { y = 256; cb = 64; cr = 64 }

pub record PredictedAccepted (n : PredictedRequest) : Type 0 where
  pub searched : search_reply (searched_for (predicting n)) ≡ Ok tt
  pub predictable : prediction_reply (mode_of n.settings.mode n.settings.bpp) n.geometry (lengths_in n.reference)
      (motion_of n.settings.vectors (found_in n).vector (found_in n).vectors) n.place n.rounding whole_lengths ≡ Ok tt
  pub source : source_reply n.size (length n.source.y) (length n.source.cb) (length n.source.cr) n.place ≡ Ok tt
  pub quantisable : Quantisable (quantising_in (predicting n))
  pub lent_is : Long n

pub predicted_accepted : (n : PredictedRequest) → predicted_reply_of n ≡ Ok tt → PredictedAccepted n
unfolding predicted_reply
predicted_accepted n e =
    let s = settings_reply n.settings.fcode n.settings.mode n.settings.bpp in
    let r = planes_reply n.geometry (lengths_in n.reference) in
    let o = source_reply n.size (length n.source.y) (length n.source.cb) (length n.source.cr) n.place in
    let w = weight_reply n.settings.quantiser n.settings.first_method n.weights in
    let fits = areas_long (length n.weights) (length n.areas.lasts) (length n.areas.runs) (length n.areas.levels) in
    let l = unless fits Length (Ok tt) in
    let c = choice_reply n.settings.vectors n.settings.scan in
    let t = rounding_reply n.rounding in
    let past-settings = then_done s (and_then r (and_then o (and_then w (and_then l (and_then c t))))) e in
    let past-planes = then_done r (and_then o (and_then w (and_then l (and_then c t)))) past-settings in
    let past-source = then_done o (and_then w (and_then l (and_then c t))) past-planes in
    let past_weight = then_done w (and_then l (and_then c t)) past-source in
    let past-lengths = then_done l (and_then c t) past_weight in
    let planes = first_done r (and_then o (and_then w (and_then l (and_then c t)))) past-settings in
    let source = first_done o (and_then w (and_then l (and_then c t))) past-planes in
    let luma = luma_alone _ _ _ _ _ source in
    let lengths = long n (unless-done fits Length (Ok tt) (first_done l (and_then c t) past_weight)) in
    let searched =
    search_taken (searched_for (predicting n))
    (first_done s (and_then r (and_then o (and_then w (and_then l (and_then c t))))) e)
    (planes_ready n.geometry (lengths_in n.reference) planes).luma luma in
    let set = search_set (searched_for (predicting n)) 0 searched in
    record {
      searched = searched;
      predictable = prediction_done _ _ _ _ _ _ _ set.mode_usable planes
          (found_usable n.settings.vectors (search_in 0 n.settings) (sought_in (predicting n)) set)
          (omega (arith, column_most _ _ _ luma)) (omega (arith, row_most _ _ _ luma)) (then_done c t past-lengths) refl refl refl;
      source = source;
      quantisable = record {
        weighed = first_done w (and_then l (and_then c t)) past-source;
        long = lengths.weights;
        known = scan_known n.settings.vectors n.settings.scan (first_done c t past-lengths);
      };
      lent_is = lengths;
    }
