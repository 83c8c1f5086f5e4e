-- The sub-sample list: its start, the half ring, in quarter mode the quarter ring around the best so far. Rules C10 to C13.
use Rattle.std.specs.Prelude.{ℕ, zero, suc, ◌*◌, ◌/◌, ◌%◌, cond, List, [], ◌∷◌, eqb, ℤ, pos, ◌+ℤ◌, ◌-ℤ◌}
use Rattle.basis.specs.Least.{best, grown}
use Rattle.basis.specs.Lists.{rows}
use Rattle.record.specs.declared.MotionVector.{MotionVector}
use Rattle.prediction.specs.declared.BVopSampleMode.{BVopSampleMode}
use Rattle.prediction.specs.declared.BVopSampleMode.TheVariants.{HalfPel, QuarterPel}
use Rattle.prediction.specs.Luma.{units_per_pel, whole_vector}
use Rattle.full_search.specs.declared.Scored.{Scored}
use Rattle.full_search.specs.Costs.{scored}
use Rattle.search.specs.declared.SearchSettings.{SearchSettings}
use Rattle.search.specs.Range.{clamped}

-- a component's neighbour: a step back, none or a step on, as k is 0, 1 or 2
abbrev pub stepped : ℤ → ℕ → ℕ → ℤ
stepped z step k = (z +ℤ pos (step * k)) -ℤ pos step

-- place n of the 3 x 3 around c, rows first, clamped
abbrev pub neighbour : ℕ → ℕ → MotionVector → ℕ → MotionVector
neighbour fcode step c n = clamped fcode (record { x = stepped c.x step (n % 3); y = stepped c.y step (n / 3) })

-- all but the centre
abbrev pub ring_at : ℕ → ℕ → MotionVector → ℕ → List MotionVector
ring_at fcode step c n = cond (eqb n 4) [] (neighbour fcode step c n ∷ [])

unfoldable pub ring : ℕ → ℕ → MotionVector → List MotionVector
ring fcode step c = rows 9 (ring_at fcode step c)

-- ring 0 at half a sample, ring 1 at a quarter
abbrev pub ring_step : BVopSampleMode → ℕ → ℕ
ring_step m zero = units_per_pel m / 2
ring_step m (suc n) = 1

abbrev pub rings : BVopSampleMode → ℕ
rings HalfPel = 1
rings (QuarterPel bpp) = 2

-- a full-sample winner in vector units, clamped
abbrev pub start : SearchSettings → MotionVector → MotionVector
start s d = clamped s.fcode (whole_vector s.mode d.x d.y)

module _ (sum : MotionVector → ℕ) (s : SearchSettings) (d : MotionVector) where
  unfoldable pub sub_rest : List MotionVector
  sub_rest = grown sum (start s d) (λ c n. ring s.fcode (ring_step s.mode n) c) [] (rings s.mode)

  -- THE LIST
  abbrev pub sub_list : List MotionVector
  sub_list = start s d ∷ sub_rest

  -- the vector with its sum
  unfoldable pub refined : Scored
  refined = scored (best sum (start s d) sub_rest) (sum (best sum (start s d) sub_rest))
