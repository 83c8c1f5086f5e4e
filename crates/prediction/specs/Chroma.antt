-- The chroma vector of a macroblock (7.6.5; for one vector Table 7-13), a component at a time: luma's vectors, in half or quarter
-- samples, give one in half samples of chroma.
use Rattle.refusal.specs.declared.Refusal.{Refusal}
use Rattle.std.specs.Prelude.{ℕ, ◌+◌, ◌*◌, ◌/◌, ◌%◌, Bool, ◌&&◌, cond, eqb, leb, ℤ, pos, nat_abs, ◌+ℤ◌, ◌*ℤ◌, Result, Ok}
use Rattle.std.specs.Int.Signed.{quot_z}
use Rattle.basis.specs.Signed.{signed}
use Rattle.refusal.specs.declared.Refusal.TheVariants.{Place}
use Rattle.refusal.specs.Reply.{Reply, answer, unless}
use Rattle.record.specs.declared.MotionVector.{MotionVector}
use Rattle.plane.specs.Reference.{vector_in_range}
use Rattle.quarter_sample.specs.Split.{split_quarter}
use Rattle.prediction.specs.declared.BVopSampleMode.{BVopSampleMode}
use Rattle.prediction.specs.declared.BVopSampleMode.TheVariants.{HalfPel, QuarterPel}
use Rattle.prediction.specs.declared.PvopMbMotion.{PvopMbMotion}
use Rattle.prediction.specs.declared.PvopMbMotion.TheVariants.{OneMv, FourMv}

-- a component in half samples of luma: in quarter mode it is halved toward zero
abbrev pub in_halves : BVopSampleMode → ℤ → ℤ
in_halves HalfPel z = z
in_halves (QuarterPel bpp) z = quot_z z (pos 2)

-- one vector's, in quarters of a chroma sample: whole samples, rounded down, and half a sample for a fraction of 1, 2 or 3
abbrev pub chroma_of_one : ℤ → ℤ
chroma_of_one z = let s = split_quarter z in s.whole *ℤ pos 2 +ℤ pos (cond (eqb s.fraction 0) 0 1)

-- sixteenths that whole samples leave over, as halves: 0 to 2 are nothing, 3 to 13 a half, 14 and 15 a whole
abbrev pub halves_of : ℕ → ℕ
halves_of r = cond (leb r 2) 0 (cond (leb r 13) 1 2)

-- four vectors' sum, in sixteenths of a chroma sample: its size is rounded, and the sign returns last
abbrev pub chroma_of_sum : ℤ → ℤ
chroma_of_sum z = signed z (2 * (nat_abs z / 16) + halves_of (nat_abs z % 16))

-- one part, horizontal or vertical; of four vectors each is halved before they are added
abbrev pub chroma_part : BVopSampleMode → (MotionVector → ℤ) → PvopMbMotion → ℤ
chroma_part m part (OneMv v) = chroma_of_one (in_halves m (part v))
chroma_part m part (FourMv a b c d) =
    chroma_of_sum (in_halves m (part a) +ℤ in_halves m (part b) +ℤ in_halves m (part c) +ℤ in_halves m (part d))

unfoldable pub chroma_vector : BVopSampleMode → PvopMbMotion → MotionVector
chroma_vector m motion = record { x = chroma_part m (λ v. v.x) motion; y = chroma_part m (λ v. v.y) motion }

-- every vector has both parts in -2,048..2,047
abbrev pub motion_in_range : PvopMbMotion → Bool
motion_in_range (OneMv v) = vector_in_range v
motion_in_range (FourMv a b c d) = vector_in_range a && (vector_in_range b && (vector_in_range c && vector_in_range d))

-- 8
unfoldable pub vectors_reply : PvopMbMotion → Reply
vectors_reply motion = unless (motion_in_range motion) Place (Ok tt)

unfoldable pub chroma_vector_of : BVopSampleMode → PvopMbMotion → Result MotionVector Refusal
chroma_vector_of m motion = answer (vectors_reply motion) (chroma_vector m motion)
