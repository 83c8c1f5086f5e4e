-- The source picture: its refusals, and a macroblock's blocks, past the right or bottom the last column or row repeated.
use Rattle.std.specs.Prelude.{ℕ, ◌+◌, ◌*◌, ◌/◌, ◌%◌, Bool, ◌&&◌, List, leb, ltb, get_or, Ok}
use Rattle.basis.specs.Lists.{raster}
use Rattle.refusal.specs.declared.Refusal.TheVariants.{SourceSide, SourcePlane, Place}
use Rattle.refusal.specs.Reply.{Reply, unless, and_then}
use Rattle.refusal.specs.Test.{between}
use Rattle.plane.specs.declared.SourceSize.{SourceSize}
use Rattle.plane.specs.declared.MacroblockPlace.{MacroblockPlace}
use Rattle.plane.specs.Plane.{Plane, copied_block}
use Rattle.plane.specs.Corner.{corner_at}
use Rattle.plane.specs.Reference.{length_reply}

-- a chroma side is half the luma side, rounded up
abbrev pub halved : ℕ → ℕ
halved n = (n + 1) / 2

abbrev pub chroma_size : SourceSize → SourceSize
chroma_size s = record { width = halved s.width; height = halved s.height }

-- a plane whose rows follow each other directly
abbrev pub packed : List ℕ → SourceSize → Plane
packed samples s = record { samples = samples; width = s.width; height = s.height; stride = s.width }

-- 6: a side not 1..4,096
unfoldable pub source_side_reply : SourceSize → Reply
source_side_reply s = unless (between 1 4096 s.width && between 1 4096 s.height) SourceSide (Ok tt)

-- whether a plane of n samples is at least as long as its width times its height
abbrev pub holds : SourceSize → ℕ → Bool
holds s n = leb (s.width * s.height) n

-- how many macroblocks cover a side: it over 16, rounded up
abbrev pub macroblocks_of : ℕ → ℕ
macroblocks_of side = (side + 15) / 16

-- 8: a column or row at or above the source's side over 16, rounded up
unfoldable pub place_reply : SourceSize → MacroblockPlace → Reply
place_reply s at = unless (ltb at.column (macroblocks_of s.width) && ltb at.row (macroblocks_of s.height)) Place (Ok tt)

-- 6, 7, 8 where luma alone is handed in, where one chroma plane is, and where all three are
unfoldable pub source_luma_reply : SourceSize → ℕ → MacroblockPlace → Reply
source_luma_reply s y at = and_then (source_side_reply s) (unless (holds s y) SourcePlane (place_reply s at))

unfoldable pub source_chroma_reply : SourceSize → ℕ → MacroblockPlace → Reply
source_chroma_reply s c at = and_then (source_side_reply s) (unless (holds (chroma_size s) c) SourcePlane (place_reply s at))

unfoldable pub source_reply : SourceSize → ℕ → ℕ → ℕ → MacroblockPlace → Reply
source_reply s y cb cr at =
    and_then (source_side_reply s) (unless (holds s y && (holds (chroma_size s) cb && holds (chroma_size s) cr)) SourcePlane (place_reply s at))

-- the 16 x 16 luma block and an 8 x 8 chroma block of a macroblock
abbrev pub source_luma : List ℕ → SourceSize → MacroblockPlace → List ℕ
source_luma y s at = copied_block (packed y s) (corner_at 16 at) 16 16

abbrev pub source_chroma : List ℕ → SourceSize → MacroblockPlace → List ℕ
source_chroma c s at = copied_block (packed c (chroma_size s)) (corner_at 8 at) 8 8

-- 8 x 8 block n of 16 x 16 luma samples, 0 and 1 above 2 and 3
abbrev pub eight_of : List ℕ → ℕ → List ℕ
eight_of y n = raster 8 8 (λ i j. get_or y ((8 * (n / 2) + j) * 16 + (8 * (n % 2) + i)) 0)

-- 6, 7, 8, 12
abbrev pub source_luma_block_reply : SourceSize → ℕ → MacroblockPlace → ℕ → Reply
source_luma_block_reply s y at area = and_then (source_luma_reply s y at) (length_reply area 16 16)

abbrev pub source_chroma_block_reply : SourceSize → ℕ → MacroblockPlace → ℕ → Reply
source_chroma_block_reply s c at area = and_then (source_chroma_reply s c at) (length_reply area 8 8)
