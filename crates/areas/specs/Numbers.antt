-- Structs from the numbers that C hands over.
use Rattle.std.specs.Prelude.{ℕ, ◌+◌, ◌*◌, Bool, not, cond, List, eqb, ℤ, pos, get_or}
use Rattle.record.specs.declared.MotionVector.{MotionVector}
use Rattle.plane.specs.declared.Point.{Point}
use Rattle.plane.specs.declared.SourceSize.{SourceSize}
use Rattle.plane.specs.declared.MacroblockPlace.{MacroblockPlace}
use Rattle.plane.specs.Plane.{geometry_of}
use Rattle.prediction.specs.declared.PvopMbMotion.{PvopMbMotion}
use Rattle.prediction.specs.declared.PvopMbMotion.TheVariants.{FourMv}
use Rattle.prediction.specs.declared.ReferenceGeometry.{ReferenceGeometry}
use Rattle.macroblock.specs.declared.Settings.{Settings}

abbrev pub vector_of : ℤ → ℤ → MotionVector
vector_of x y = record { x = x; y = y }

-- vector k of those that follow each other in a list
abbrev pub pair_of : List ℤ → ℕ → MotionVector
pair_of l k = vector_of (get_or l (2 * k) (pos 0)) (get_or l (2 * k + 1) (pos 0))

abbrev pub point_of : ℤ → ℤ → Point
point_of x y = record { x = x; y = y }

abbrev pub size_of : ℕ → ℕ → SourceSize
size_of width height = record { width = width; height = height }

abbrev pub macroblock_at : ℕ → ℕ → MacroblockPlace
macroblock_at column row = record { column = column; row = row }

-- any number but 0 is yes: the first method, a half, interlaced
abbrev pub is_set : ℕ → Bool
is_set n = not (eqb n 0)

-- yes is written as 1
abbrev pub flag_of : Bool → ℕ
flag_of b = cond b 1 0

-- four vectors of eight numbers: each one's horizontal, then vertical
abbrev pub four_motion : List ℤ → PvopMbMotion
four_motion l = FourMv (pair_of l 0) (pair_of l 1) (pair_of l 2) (pair_of l 3)

-- luma's sizes and stride, and the stride of both chroma planes
abbrev pub reference_geometry : ℕ → ℕ → ℕ → ℕ → ReferenceGeometry
reference_geometry width height stride chroma = record { luma = geometry_of width height stride; chroma_stride = chroma }

abbrev pub macroblock_settings : ℕ → ℕ → ℕ → ℕ → ℕ → ℕ → ℕ → Settings
macroblock_settings fcode mode bpp quantiser first vectors scan =
    record {
      fcode = fcode;
      mode = mode;
      bpp = bpp;
      quantiser = quantiser;
      first_method = is_set first;
      vectors = vectors;
      scan = scan;
    }
