-- A search's arguments as one value, what they speak of, and what turns them back, in their order (rules F1 to F9, O1).
use Rattle.std.specs.Prelude.{ℕ, ◌||◌, List, eqb, length, Ok}
use Rattle.refusal.specs.declared.Refusal.TheVariants.{Fcode, Mode, BitsPerPixel, Seed}
use Rattle.refusal.specs.Reply.{Reply, unless, and_then}
use Rattle.refusal.specs.Bounds.{is_fcode, is_mode, is_bits}
use Rattle.record.specs.declared.MotionVector.{MotionVector}
use Rattle.plane.specs.declared.Geometry.{Geometry}
use Rattle.plane.specs.declared.SourceSize.{SourceSize}
use Rattle.plane.specs.declared.MacroblockPlace.{MacroblockPlace}
use Rattle.plane.specs.Corner.{corner_of}
use Rattle.plane.specs.Plane.{Plane, plane_of, copied}
use Rattle.plane.specs.Reference.{reference_reply}
use Rattle.plane.specs.Source.{packed, source_luma_reply}
use Rattle.prediction.specs.Luma.{mode_of}
use Rattle.full_search.specs.Block.{Block}
use Rattle.search.specs.declared.SearchRequest as lent
use Rattle.search.specs.declared.SearchSettings.{SearchSettings}
use Rattle.search.specs.Range.{vector_in}

pub record SearchRequest : Type 0 where
  -- the source's luma
  pub source : List ℕ
  pub size : SourceSize
  pub place : MacroblockPlace
  pub reference : List ℕ
  pub geometry : Geometry
  pub mode : ℕ
  pub bpp : ℕ
  pub fcode : ℕ

-- in the order of the request's fields
abbrev pub search_request : List ℕ → SourceSize → MacroblockPlace → List ℕ → Geometry → ℕ → ℕ → ℕ → SearchRequest
search_request source size place reference geometry mode bpp fcode =
    record {
      source = source;
      size = size;
      place = place;
      reference = reference;
      geometry = geometry;
      mode = mode;
      bpp = bpp;
      fcode = fcode;
    }

-- what stands in lent samples
abbrev pub lent_search : lent.SearchRequest → SearchRequest
lent_search q = search_request q.source.now q.size q.place q.reference.now q.geometry q.mode q.bpp q.fcode

-- ---- what a request speaks of

-- settings, at a rounding type, from the numbers that an entry is given
abbrev pub settings_of : ℕ → ℕ → ℕ → ℕ → SearchSettings
settings_of rounding mode bpp fcode = record { mode = mode_of mode bpp; fcode = fcode; rounding = rounding }

abbrev pub settings_in : ℕ → SearchRequest → SearchSettings
settings_in rounding q = settings_of rounding q.mode q.bpp q.fcode

-- a macroblock of a source, searched for in a reference
abbrev pub macroblock : List ℕ → SourceSize → MacroblockPlace → Plane → Block
macroblock y s at p =
    record { side = 16; source = copied (packed y s) (corner_of at).x (corner_of at).y; reference = p; corner = corner_of at }

-- the one that it searches for
abbrev pub sought : SearchRequest → Block
sought q = macroblock q.source q.size q.place (plane_of q.reference q.geometry)

-- ---- refusals

-- 1, 2, 3
unfoldable pub settings_reply : ℕ → ℕ → ℕ → Reply
settings_reply fcode mode bpp =
    unless (is_fcode fcode) Fcode
    (unless (is_mode mode) Mode
    (unless (eqb mode 0 || is_bits bpp) BitsPerPixel (Ok tt)))

-- 1 .. 8
unfoldable pub search_reply : SearchRequest → Reply
search_reply q =
    and_then (settings_reply q.fcode q.mode q.bpp)
    (and_then (reference_reply q.geometry (length q.reference))
    (source_luma_reply q.size (length q.source) q.place))

-- 9
unfoldable pub seed_reply : ℕ → MotionVector → Reply
seed_reply fcode seed = unless (vector_in fcode seed) Seed (Ok tt)

-- 1 .. 9
unfoldable pub four_reply : SearchRequest → MotionVector → Reply
four_reply q seed = and_then (search_reply q) (seed_reply q.fcode seed)
