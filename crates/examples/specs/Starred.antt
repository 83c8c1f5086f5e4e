-- The starred worked examples of docs/RULES.md, X, and those of the chroma vector, a row each. They are about the definitions that the
-- promises cite.
use Rattle.std.specs.Prelude.{ℕ, Bool, true, false, not, ◌&&◌, List, [], ◌∷◌, eqb, ℤ, pos, negsuc, ◌+ℤ◌, length, get_or, set, replicate}
use Rattle.std.specs.Int.Signed.{le_z}
use Rattle.half_sample.specs.declared.HalfPel.{HalfPel}
use Rattle.half_sample.specs.Split.{split_half}
use Rattle.half_sample.specs.Average.{average2_of, average4_of}
use Rattle.quarter_sample.specs.declared.QuarterPel.{QuarterPel}
use Rattle.quarter_sample.specs.Split.{split_quarter}
use Rattle.quarter_sample.specs.Filter.{mirror, fir, largest}
use Rattle.prediction.specs.declared.BVopSampleMode.{BVopSampleMode}
use Rattle.prediction.specs.Luma.{mode_of}
use Rattle.prediction.specs.declared.PvopMbMotion.TheVariants.{OneMv, FourMv}
use Rattle.prediction.specs.Chroma.{in_halves, chroma_vector}
use Rattle.quantise.specs.Level.{level_by_quantiser, level_by_weight, inverse_by_quantiser}
use Rattle.scan.specs.Event.{events_of, lasts_area, runs_area, levels_area}
use Rattle.scan.specs.Grid.{grid_of, scanned}
use Rattle.record.specs.declared.MotionVector.{MotionVector}
use Rattle.coding.specs.Coding.{luma_pattern_of, chroma_pattern_of}
use Rattle.search.specs.Range.{low, high}
use Rattle.search.specs.Request.{settings_of}
use Rattle.search.specs.Sub.{start}

abbrev pub equal_z : ℤ → ℤ → Bool
equal_z a b = le_z a b && le_z b a

abbrev pub halves : HalfPel → ℤ → Bool → Bool
halves s whole true = equal_z s.whole whole && s.half
halves s whole false = equal_z s.whole whole && not s.half

abbrev pub quarters : QuarterPel → ℤ → ℕ → Bool
quarters s whole fraction = equal_z s.whole whole && eqb s.fraction fraction

-- where the sub-sample search of quarter mode, mode 1, starts at fcode 1 from full +8 across and -8 down
abbrev pub quarter_start : MotionVector
quarter_start = start (settings_of 0 1 8 1) (record { x = pos 8; y = negsuc 7 })

unfoldable pub ranges : List Bool
ranges =
    -- fcode 1: -32 .. 31; fcode 7: -2,048 .. 2,047
    equal_z (low 1) (negsuc 31)
    ∷ equal_z (high 1) (pos 31)
    ∷ equal_z (low 7) (negsuc 2047)
    ∷ equal_z (high 7) (pos 2047)
    -- quarter, fcode 1: full +8 starts at 31, -8 at -32
    ∷ equal_z quarter_start.x (pos 31)
    ∷ equal_z quarter_start.y (negsuc 31)
    ∷ []

abbrev pub splits : List Bool
splits =
    -- half samples: -1 gives -1 and a half; -2 gives -1 and none
    halves (split_half (negsuc 0)) (negsuc 0) true
    ∷ halves (split_half (negsuc 1)) (negsuc 0) false
    -- quarter samples: -5 gives -2, fraction 3
    ∷ quarters (split_quarter (negsuc 4)) (negsuc 1) 3
    ∷ []

abbrev pub averages : List Bool
averages =
    -- of 1, 2: rc 0 gives 2, rc 1 gives 1
    eqb (average2_of 1 2 0) 2
    ∷ eqb (average2_of 1 2 1) 1
    -- of 0, 0, 1, 1: 1 and 0
    ∷ eqb (average4_of 0 0 1 1 0) 1
    ∷ eqb (average4_of 0 0 1 1 1) 0
    ∷ []

unfoldable pub taps : List Bool
taps =
    -- all 255: 255
    eqb (fir 0 (largest 8) 255 255 255 255 255 255 255 255) 255
    -- middle two 255, others 0: 255 at bpp 8, 15 at bpp 4
    ∷ eqb (fir 0 (largest 8) 0 0 0 255 255 0 0 0) 255
    ∷ eqb (fir 0 (largest 4) 0 0 0 255 255 0 0 0) 15
    -- middle two 0, others 255: 0
    ∷ eqb (fir 0 (largest 8) 255 255 255 0 0 255 255 255) 0
    ∷ []

-- size 9: -3 becomes 2, 9 becomes 8, 11 becomes 6
unfoldable pub reflections : List Bool
reflections = eqb (mirror 9 (negsuc 2)) 2 ∷ eqb (mirror 9 (pos 9)) 8 ∷ eqb (mirror 9 (pos 11)) 6 ∷ []

unfoldable pub levels : List Bool
levels =
    -- q 5: 11 gives 0, 12 gives 1, -12 gives -1, 22 gives 2
    equal_z (level_by_quantiser 5 (pos 11)) (pos 0)
    ∷ equal_z (level_by_quantiser 5 (pos 12)) (pos 1)
    ∷ equal_z (level_by_quantiser 5 (negsuc 11)) (negsuc 0)
    ∷ equal_z (level_by_quantiser 5 (pos 22)) (pos 2)
    -- level 1 returns 15 at q 5, and 11 at q 4
    ∷ equal_z (inverse_by_quantiser 5 (pos 1)) (pos 15)
    ∷ equal_z (inverse_by_quantiser 4 (pos 1)) (pos 11)
    -- w 16, q 1: 2 gives 0, 3 gives 1; w 1, q 1: 300 gives 2,047
    ∷ equal_z (level_by_weight 16 1 (pos 2)) (pos 0)
    ∷ equal_z (level_by_weight 16 1 (pos 3)) (pos 1)
    ∷ equal_z (level_by_weight 1 1 (pos 300)) (pos 2047)
    ∷ []

-- the zigzag scan of a block with 3 at row 0, column 0 and -1 at row 1, column 1, which are scan places 0 and 4
unfoldable pub scanned_levels : List ℤ
scanned_levels = scanned (grid_of 2) (set (set (replicate 64 (pos 0)) 0 (pos 3)) 9 (negsuc 0))

-- its events: (no, 0, 3), (yes, 3, -1)
unfoldable pub events : List Bool
events =
    equal_z (get_or scanned_levels 0 (pos 0)) (pos 3)
    ∷ equal_z (get_or scanned_levels 4 (pos 0)) (negsuc 0)
    ∷ eqb (length (events_of scanned_levels)) 2
    ∷ eqb (get_or (lasts_area scanned_levels) 0 9) 0
    ∷ eqb (get_or (runs_area scanned_levels) 0 9) 0
    ∷ equal_z (get_or (levels_area scanned_levels) 0 (pos 9)) (pos 3)
    ∷ eqb (get_or (lasts_area scanned_levels) 1 9) 1
    ∷ eqb (get_or (runs_area scanned_levels) 1 9) 3
    ∷ equal_z (get_or (levels_area scanned_levels) 1 (pos 9)) (negsuc 0)
    ∷ []

-- blocks 0, 3, 5 coded: patterns 9 and 1
unfoldable pub patterns : List Bool
patterns =
    let counts : List ℕ = 1 ∷ 0 ∷ 0 ∷ 1 ∷ 0 ∷ 1 ∷ [] in
    eqb (luma_pattern_of counts) 9 ∷ eqb (chroma_pattern_of counts) 1 ∷ []

-- the two modes
abbrev pub half : BVopSampleMode
half = mode_of 0 8

abbrev pub quarter : BVopSampleMode
quarter = mode_of 1 8

-- a vector that moves across alone, and how far chroma is moved by one of them, or by four, in half samples
abbrev pub across : ℤ → MotionVector
across z = record { x = z; y = pos 0 }

abbrev pub by_one : BVopSampleMode → ℤ → ℤ
by_one m z = (chroma_vector m (OneMv (across z))).x

abbrev pub by_four : BVopSampleMode → ℤ → ℤ → ℤ → ℤ → ℤ
by_four m a b c d = (chroma_vector m (FourMv (across a) (across b) (across c) (across d))).x

unfoldable pub chroma : List Bool
chroma =
    -- one vector in half samples: -1, -2 and -3 give -1, and -5 gives -3
    equal_z (by_one half (negsuc 0)) (negsuc 0)
    ∷ equal_z (by_one half (negsuc 1)) (negsuc 0)
    ∷ equal_z (by_one half (negsuc 2)) (negsuc 0)
    ∷ equal_z (by_one half (negsuc 4)) (negsuc 2)
    -- in quarter samples: -1 gives 0, and -2, -3 and -5 give -1
    ∷ equal_z (by_one quarter (negsuc 0)) (pos 0)
    ∷ equal_z (by_one quarter (negsuc 1)) (negsuc 0)
    ∷ equal_z (by_one quarter (negsuc 2)) (negsuc 0)
    ∷ equal_z (by_one quarter (negsuc 4)) (negsuc 0)
    -- four that add to 2 give 0; to 3 and 13, 1; to 14, 15 and 16, 2
    ∷ equal_z (by_four half (pos 1) (pos 1) (pos 0) (pos 0)) (pos 0)
    ∷ equal_z (by_four half (pos 1) (pos 1) (pos 1) (pos 0)) (pos 1)
    ∷ equal_z (by_four half (pos 4) (pos 3) (pos 3) (pos 3)) (pos 1)
    ∷ equal_z (by_four half (pos 4) (pos 4) (pos 3) (pos 3)) (pos 2)
    ∷ equal_z (by_four half (pos 4) (pos 4) (pos 4) (pos 3)) (pos 2)
    ∷ equal_z (by_four half (pos 4) (pos 4) (pos 4) (pos 4)) (pos 2)
    -- and their negatives
    ∷ equal_z (by_four half (negsuc 0) (negsuc 0) (pos 0) (pos 0)) (pos 0)
    ∷ equal_z (by_four half (negsuc 0) (negsuc 0) (negsuc 0) (pos 0)) (negsuc 0)
    ∷ equal_z (by_four half (negsuc 3) (negsuc 2) (negsuc 2) (negsuc 2)) (negsuc 0)
    ∷ equal_z (by_four half (negsuc 3) (negsuc 3) (negsuc 2) (negsuc 2)) (negsuc 1)
    ∷ equal_z (by_four half (negsuc 3) (negsuc 3) (negsuc 3) (negsuc 2)) (negsuc 1)
    ∷ equal_z (by_four half (negsuc 3) (negsuc 3) (negsuc 3) (negsuc 3)) (negsuc 1)
    -- in quarter samples each is halved before they are added: -1, -1, 0 and 0 add to 0, not -1
    ∷ equal_z (in_halves quarter (negsuc 0) +ℤ in_halves quarter (negsuc 0)) (pos 0)
    -- so that -3, -1, -1 and -1, which add to -1 and not to -3, give 0
    ∷ equal_z (by_four quarter (negsuc 2) (negsuc 0) (negsuc 0) (negsuc 0)) (pos 0)
    ∷ []

abbrev pub hold : List Bool → Bool
hold [] = true
hold (t ∷ ts) = t && hold ts

-- all of it
unfoldable pub starred : Bool
starred = hold ranges && hold splits && hold averages && hold taps && hold reflections && hold levels && hold events && hold patterns && hold chroma
