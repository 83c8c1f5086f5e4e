-- The vector that two searches over a laid-out macroblock find is that of its source. Assumes nothing.
use Prim.Native.Nat.{ℕ}
use native.Mathlib.Omega.{arith}
use mathlib.Core.Path.{◌≡◌, refl, ap, ap₂, ◌∙◌}
use Rattle.record.specs.declared.MotionVector.{MotionVector}
use Rattle.plane.specs.declared.Point.{Point}
use Rattle.plane.specs.Corner.{corner_of}
use Rattle.plane.specs.Plane.{Plane, plane_of}
use Rattle.prediction.specs.Luma.{whole_vector}
use Rattle.std.specs.Prelude.{Ok}
use Rattle.full_search.specs.declared.Sought.{Sought}
use Rattle.full_search.specs.declared.Target.{Target}
use Rattle.full_search.specs.Block.{Block, lent_block, copied_sum}
use Rattle.full_search.specs.Costs.{discounted, zero_discount}
use Rattle.full_search.specs.Full.{full_rest, full_winner}
use Rattle.full_search.specs.Told.{Within}
use Rattle.full_search.specs.Won.{sixteen_best, sixteen_won}
use Rattle.full_search.proofs.Moves.{wider}
use Rattle.full_search.proofs.Near.{winner_within}
use Rattle.full_search.proofs.Taken.{sixteen_won_lem}
use Rattle.search.specs.declared.SearchSettings.{SearchSettings}
use Rattle.search.specs.Range.{window}
use Rattle.search.specs.Request.{SearchRequest, sought}
use Rattle.search.specs.Sums.{vector_sum, whole_sum}
use Rattle.search.specs.Sub.{refined}
use Rattle.search.specs.Estimate.{one_vector}
use Rattle.search.specs.Told.{Judged, Copied}
use Rattle.search.proofs.SourceBlock.{given, laid, samples_of, copied_is, copied_ready}
use Rattle.search.proofs.Windows.{window_most}
use Rattle.search.proofs.WholeSums.{copied_whole, source_sums}

module _ (s : SearchSettings) (f : ℕ → ℕ → ℕ) (p : Plane) (corner : Point) where
  -- sums of whole samples, as the code has them
  copy_sums : copied_sum (laid f p corner) ≡ whole_sum s (given f p corner)
  copy_sums =
      copied_whole s (laid f p corner)
      ∙ ap (λ (sum : MotionVector → ℕ). λ d. sum (whole_vector s.mode d.x d.y)) (source_sums s 16 f p corner)

  -- of a block, the full-sample list knows the place and the reference alone
  same_list : (cost : MotionVector → ℕ) (fcode w : ℕ) → full_winner cost fcode w (laid f p corner) ≡ full_winner cost fcode w (given f p corner)
  unfolding full_winner full_rest
  same_list cost fcode w = refl

  winner_is : full_winner (discounted zero_discount (copied_sum (laid f p corner))) s.fcode (window s) (laid f p corner)
      ≡ full_winner (discounted zero_discount (whole_sum s (given f p corner))) s.fcode (window s) (given f p corner)
  winner_is =
      ap (λ (sum : MotionVector → ℕ). full_winner (discounted zero_discount sum) s.fcode (window s) (laid f p corner)) copy_sums
      ∙ same_list (discounted zero_discount (whole_sum s (given f p corner))) s.fcode (window s)

  -- THE LAW, of the full-sample search's winner d
  pub searched : (d : MotionVector)
      → d ≡ full_winner (discounted zero_discount (copied_sum (laid f p corner))) s.fcode (window s) (laid f p corner)
      → refined (vector_sum s (laid f p corner)) s d ≡ one_vector s (given f p corner)
  unfolding one_vector
  searched d e = ap₂ (λ (sum : MotionVector → ℕ) (v : MotionVector). refined sum s v) (source_sums s 16 f p corner) (e ∙ winner_is)

-- ---- a copy of the macroblock that a search is for

module _ (q : SearchRequest) (s : SearchSettings) (b : Sought) (c : Copied q b) where
  -- the full-sample search is not refused
  pub copied_best : Judged q s → (w : ℕ) → w ≡ window s
      → sixteen_won b.source.now b.reference.now b.target s.fcode w ≡ Ok (sixteen_best (lent_block b) s.fcode (window s))
  copied_best j w e =
      rw e (sixteen_won_lem b.source.now b.reference.now b.target (window s) s.fcode (copied_ready q b c s j) (ap (λ (t : Target). t.side) c.target) (window_most s j.settings.fcode_usable))

  -- its winner can be refined
  pub best_within : Judged q s → Within 4096 (sixteen_best (lent_block b) s.fcode (window s)).vector
  unfolding sixteen_best
  best_within j = wider (omega arith) (winner_within (discounted zero_discount (copied_sum (lent_block b))) s.fcode (window s) (lent_block b) (window_most s j.settings.fcode_usable))

  -- to the macroblock's vector
  pub copied_searched : refined (vector_sum s (lent_block b)) s (sixteen_best (lent_block b) s.fcode (window s)).vector ≡ one_vector s (sought q)
  unfolding sixteen_best
  copied_searched =
      ap (λ (k : Block). refined (vector_sum s k) s (sixteen_best k s.fcode (window s)).vector) (copied_is q b c)
      ∙ searched s (samples_of q) (plane_of q.reference q.geometry) (corner_of q.place) _ refl
