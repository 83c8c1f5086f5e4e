-- The four 8 x 8 blocks of a macroblock: what is copied of each, and that its vector is the block's. Assumes nothing.
use Prim.Native.Nat.{ℕ, ◌+◌, ◌*◌, ◌/◌, ◌%◌, ◌<◌, ◌≤◌}
use native.Mathlib.Omega.{arith}
use mathlib.Core.List.{List, [], ◌∷◌}
use mathlib.Core.Path.{◌≡◌, refl, sym, ap, fun_ext, ◌∙◌}
use lib.IntN.{ℤ, pos, ◌+ℤ◌}
use lib.ListN.{get_or}
use Rattle.basis.specs.Lists.{tabulate, raster}
use Rattle.basis.specs.Parts.{above, below}
use Rattle.basis.proofs.Lists.{raster_cong, get_or-raster, length-raster}
use Rattle.basis.proofs.Parts.{above-add, below-add}
use Rattle.std.specs.Prelude.{Ok}
use Rattle.record.specs.declared.MotionVector.{MotionVector}
use Rattle.plane.specs.declared.Geometry.{Geometry}
use Rattle.plane.specs.declared.Point.{Point}
use Rattle.plane.specs.Corner.{corner_of, block_corner}
use Rattle.plane.specs.Plane.{Plane, plane_of, copied, copied_block}
use Rattle.plane.specs.Reference.{reference_reply}
use Rattle.plane.specs.Source.{eight_of}
use Rattle.plane.proofs.Inside.{sample_inside}
use Rattle.plane.proofs.Ready.{reference_done}
use Rattle.prediction.specs.Luma.{whole_vector}
use Rattle.full_search.specs.declared.Scored.{Scored}
use Rattle.full_search.specs.declared.Sought.{Sought}
use Rattle.full_search.specs.declared.Target.{Target}
use Rattle.full_search.specs.Block.{Block, eight, block_in, block_of, lent_block, copied_sum}
use Rattle.full_search.specs.Full.{four_winner}
use Rattle.full_search.specs.Told.{Within, Inside, Ready}
use Rattle.full_search.specs.Won.{eight_best, eight_won}
use Rattle.full_search.proofs.Moves.{wider}
use Rattle.full_search.proofs.Near.{four_within}
use Rattle.full_search.proofs.Taken.{eight-won}
use Rattle.full_search.proofs.EqualSums.{differences_cong}
use Rattle.search.specs.declared.SearchSettings.{SearchSettings}
use Rattle.search.specs.declared.EstimatedFour.{EstimatedFour}
use Rattle.search.specs.Range.{window}
use Rattle.search.specs.Request.{SearchRequest, sought}
use Rattle.search.specs.Sums.{vector_sum}
use Rattle.search.specs.Sub.{refined}
use Rattle.search.specs.Estimate.{block_vector, four_vectors_of}
use Rattle.search.specs.Told.{Placed, Copied, EightSought, eight_target}
use Rattle.search.proofs.InRange.{in_interpolation}
use Rattle.search.proofs.SourceBlock.{given, laid, samples_of, copied_is}
use Rattle.search.proofs.WholeSums.{copied_whole, source_sums}
use Rattle.search.proofs.Windows.{window_most}

-- ---- a copy of block n

-- a macroblock's samples as a plane, and where a block starts in it
abbrev pub whole : Geometry
whole = record { width = 16; height = 16; stride = 16 }

abbrev pub start_of : ℕ → Point
start_of n = record { x = pos (8 * (n % 2)); y = pos (8 * (n / 2)) }

pub whole_usable : (n : ℕ) → n ≡ 256 → reference_reply whole n ≡ Ok tt
whole_usable n e = reference_done whole n refl (omega (arith, e))

-- the sample at column i and row j of block n
abbrev pub part_of : List ℕ → ℕ → ℕ → ℕ → ℕ
part_of l n i j = get_or l ((8 * (n / 2) + j) * 16 + (8 * (n % 2) + i)) 0

-- no coordinate of a block is clamped
pub eight-copied : (l : List ℕ) (n : ℕ) → n < 4 → copied_block (plane_of l whole) (start_of n) 8 8 ≡ raster 8 8 (part_of l n)
eight-copied l n h =
    raster_cong 8 8 (copied (plane_of l whole) (pos (8 * (n % 2))) (pos (8 * (n / 2)))) (part_of l n)
    (λ i j a b. sample_inside (plane_of l whole) _ _ (8 * (n % 2) + i) (8 * (n / 2) + j) refl refl (omega arith) (omega arith))

-- ---- where block n stands

part_inside : (z : ℤ) (k : ℕ) → above z ≤ 4080 → below z ≡ 0 → k ≤ 8 → (above (z +ℤ pos k) ≤ 4088) × (below (z +ℤ pos k) ≡ 0)
part_inside z k p q h = (omega (arith, above-add z (pos k)), omega (arith, below-add z (pos k)))

-- a search takes it
pub eight_inside : (o : Point) (n : ℕ) → Placed o → n < 4 → Inside (block_corner o n)
eight_inside o n p h =
    let x = part_inside o.x (8 * (n % 2)) p.x_most p.x_least (omega arith) in
    let y = part_inside o.y (8 * (n / 2)) p.y_most p.y_least (omega arith) in
    record { x_most = x.0; x_least = x.1; y_most = y.0; y_least = y.1 }

-- ---- the vector of a block

module _ (s : SearchSettings) (seed : MotionVector) where
  -- as it is searched for
  pub searched : (b : Block) → refined (vector_sum s b) s (four_winner (copied_sum b) (window s) s.mode seed) ≡ block_vector s seed b
  unfolding block_vector
  searched b = ap (λ (sum : MotionVector → ℕ). refined (vector_sum s b) s (four_winner sum (window s) s.mode seed)) (copied_whole s b)

  -- it depends on the block's sums alone
  pub vector_cong : (b b' : Block) → vector_sum s b ≡ vector_sum s b' → block_vector s seed b ≡ block_vector s seed b'
  unfolding block_vector
  vector_cong b b' e =
      ap (λ (sum : MotionVector → ℕ). refined sum s (four_winner (λ d. sum (whole_vector s.mode d.x d.y)) (window s) s.mode seed)) e

  -- a copy of block n has its vector
  pub copied_vector : (l samples : List ℕ) (t : Target) (n : ℕ) → t.side ≡ 16
      → block_vector s seed (block_of (eight_of l n) samples (eight_target t n)) ≡ block_vector s seed (eight (block_of l samples t) n)
  copied_vector l samples t n e =
      let p = plane_of samples t.geometry in
      let corner = block_corner t.corner n in
      vector_cong (block_of (eight_of l n) samples (eight_target t n)) (record { side = 8; source = part_of l n; reference = p; corner = corner })
      (source_sums s 8 (part_of l n) p corner)
      ∙ ap (λ (side : ℕ). block_vector s seed (eight (block_in side l p t.corner) n)) (sym e)

  -- ---- as a copy of block n of a macroblock that is sought finds it

  module _ (b : Sought) (n : ℕ) (r : EightSought b n s seed) where
    abbrev part : Block
    part = block_of (eight_of b.source.now n) b.reference.now (eight_target b.target n)

    pub part_ready : Ready (eight_of b.source.now n) b.reference.now (eight_target b.target n)
    part_ready =
        record {
          is_side_is = refl;
          source_fits = length-raster 8 8 (part_of b.source.now n);
          reference = r.reference;
          inside = eight_inside b.target.corner n r.placed r.block_is;
        }

    -- the full-sample search is not refused
    pub part_best : (w : ℕ) → w ≡ window s
        → eight_won (eight_of b.source.now n) b.reference.now (eight_target b.target n) s.mode w seed ≡ Ok (eight_best part s.mode (window s) seed)
    part_best w e =
        let f = r.settings.fcode_usable in
        rw e
        (eight-won (eight_of b.source.now n) b.reference.now (eight_target b.target n) (window s) seed s.mode part_ready refl (window_most s f)
        (in_interpolation s.fcode seed f r.seed_in))

    -- its winner can be refined
    pub part_within : Within 4096 (eight_best part s.mode (window s) seed).vector
    unfolding eight_best
    part_within = wider (omega arith) (four_within (copied_sum part) (window s) s.mode seed (window_most s r.settings.fcode_usable))

    -- to the block's vector
    pub part_searched : refined (vector_sum s part) s (eight_best part s.mode (window s) seed).vector ≡ block_vector s seed (eight (lent_block b) n)
    unfolding eight_best
    part_searched = searched part ∙ copied_vector b.source.now b.reference.now b.target n r.sixteen

  -- ---- the four of a macroblock whose source is laid out as a list

  module _ (f : ℕ → ℕ → ℕ) (p : Plane) (corner : Point) where
    abbrev laid_vector : ℕ → Scored
    laid_vector n = block_vector s seed (eight (laid f p corner) n)

    same_sums : (n : ℕ) → n < 4 → vector_sum s (eight (laid f p corner) n) ≡ vector_sum s (eight (given f p corner) n)
    unfolding vector_sum
    same_sums n h =
        fun_ext
        (λ v. differences_cong 8 _ _ _ _
        (λ i j a b. get_or-raster 16 16 f (8 * (n % 2) + i) (8 * (n / 2) + j) 0 (omega arith) (omega arith)) (λ i j a b. refl))

    same_vector : (n : ℕ) → n < 4 → laid_vector n ≡ block_vector s seed (eight (given f p corner) n)
    same_vector n h = vector_cong (eight (laid f p corner) n) (eight (given f p corner) n) (same_sums n h)

    pub four_are : (a b c d : Scored) → a ≡ laid_vector 0 → b ≡ laid_vector 1 → c ≡ laid_vector 2 → d ≡ laid_vector 3
        → ◌≡◌ {A = EstimatedFour}
        (record {
          vectors = a.vector ∷ b.vector ∷ c.vector ∷ d.vector ∷ [];
          sums = a.cost ∷ b.cost ∷ c.cost ∷ d.cost ∷ [];
        }) (four_vectors_of s seed (given f p corner))
    unfolding four_vectors_of tabulate
    four_are a b c d p q r t =
        let e = p ∙ same_vector 0 (omega arith) in
        let g = q ∙ same_vector 1 (omega arith) in
        let k = r ∙ same_vector 2 (omega arith) in
        let o = t ∙ same_vector 3 (omega arith) in
        λ i.
        record {
          vectors = (e i).vector ∷ (g i).vector ∷ (k i).vector ∷ (o i).vector ∷ [];
          sums = (e i).cost ∷ (g i).cost ∷ (k i).cost ∷ (o i).cost ∷ [];
        }

  -- a copy of the macroblock that a search is for has its vectors
  pub copied_eights : (q : SearchRequest) (l : Sought) → Copied q l
      → let v = λ (n : ℕ). block_vector s seed (eight (lent_block l) n) in
      ◌≡◌ {A = EstimatedFour}
      (record {
        vectors = (v 0).vector ∷ (v 1).vector ∷ (v 2).vector ∷ (v 3).vector ∷ [];
        sums = (v 0).cost ∷ (v 1).cost ∷ (v 2).cost ∷ (v 3).cost ∷ [];
      }) (four_vectors_of s seed (sought q))
  copied_eights q l c =
      let at = λ (n : ℕ). ap (λ (b : Block). block_vector s seed (eight b n)) (copied_is q l c) in
      four_are (samples_of q) (plane_of q.reference q.geometry) (corner_of q.place) _ _ _ _ (at 0) (at 1) (at 2) (at 3)
