-- A macroblock whose source is laid out as a list, as `plane::source::luma_block` leaves it. Assumes nothing.
use Prim.Native.Nat.{ℕ, ◌<◌}
use native.Mathlib.Omega.{arith}
use mathlib.Core.List.{List}
use mathlib.Core.Bool.{true}
use mathlib.Core.Path.{◌≡◌, refl, sym, subst, ap, ◌∙◌}
use lib.ListN.{length}
use Rattle.basis.specs.Lists.{raster}
use Rattle.basis.proofs.Lists.{length-raster}
use Rattle.record.specs.declared.MotionVector.{MotionVector}
use Rattle.plane.specs.declared.Point.{Point}
use Rattle.plane.specs.Corner.{corner_of}
use Rattle.plane.specs.Plane.{Plane, plane_of, copied}
use Rattle.plane.specs.Source.{packed, source_luma}
use Rattle.full_search.specs.declared.Sought.{Sought}
use Rattle.full_search.specs.declared.Target.{Target}
use Rattle.full_search.specs.Block.{Block, block_in, block_of, lent_block}
use Rattle.full_search.specs.Told.{Ready}
use Rattle.search.specs.declared.SearchSettings.{SearchSettings}
use Rattle.search.specs.Range.{vector_in}
use Rattle.search.specs.Request.{SearchRequest}
use Rattle.search.specs.Told.{Judged, Placed, Copied, EightSought, SoughtReady, macroblock_target}
use Rattle.search.proofs.Judge.{column_most, row_most}

-- the macroblock whose samples f gives, and the same from their list
module _ (f : ℕ → ℕ → ℕ) (p : Plane) (corner : Point) where
  abbrev pub given : Block
  given = record { side = 16; source = f; reference = p; corner = corner }

  abbrev pub laid : Block
  laid = block_in 16 (raster 16 16 f) p corner

-- ---- a macroblock that is not refused

module _ (q : SearchRequest) where
  abbrev pub samples_of : ℕ → ℕ → ℕ
  samples_of = copied (packed q.source q.size) (corner_of q.place).x (corner_of q.place).y

  module _ (s : SearchSettings) (j : Judged q s) where
    -- its corner is that of a macroblock
    pub luma_placed : Placed (corner_of q.place)
    luma_placed =
        record { x_most = column_most _ _ _ j.luma; x_least = refl; y_most = row_most _ _ _ j.luma; y_least = refl }

    -- it can be searched for
    pub luma_searched : (l : List ℕ) → l ≡ source_luma q.source q.size q.place → Ready l q.reference (macroblock_target q.geometry q.place)
    luma_searched l e =
        record {
          is_side_is = refl;
          source_fits = ap length e ∙ length-raster 16 16 samples_of;
          reference = j.reference;
          inside =
              record {
                x_most = omega (arith, luma_placed.x_most);
                x_least = refl;
                y_most = omega (arith, luma_placed.y_most);
                y_least = refl;
              };
        }

  -- ---- a copy of it

  module _ (b : Sought) (c : Copied q b) where
    -- it is laid out as a list
    pub copied_is : lent_block b ≡ laid samples_of (plane_of q.reference q.geometry) (corner_of q.place)
    copied_is i = block_of (c.source i) (c.reference i) (c.target i)

    -- it can be searched for
    pub copied_ready : (s : SearchSettings) → Judged q s → SoughtReady b
    copied_ready s j = rw (c.reference, c.target) (luma_searched s j b.source.now c.source)

    -- and so can each of its four blocks
    pub copied_eight : (s : SearchSettings) → Judged q s → (n : ℕ) (seed : MotionVector) → n < 4 → vector_in s.fcode seed ≡ true → EightSought b n s seed
    copied_eight s j n seed h v =
        record {
          samples_fit = ap length c.source ∙ length-raster 16 16 samples_of;
          block_is = h;
          reference = (copied_ready s j).reference;
          sixteen = ap (λ (t : Target). t.side) c.target;
          placed = subst (λ (t : Target). Placed t.corner) (sym c.target) (luma_placed s j);
          settings = j.settings;
          seed_in = v;
        }
