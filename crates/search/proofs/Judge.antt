-- What holds where a search is not refused. Assumes nothing.
use Prim.Native.Nat.{ℕ, ◌*◌, ◌≤◌}
use native.Mathlib.Omega.{arith}
use mathlib.Core.Bool.{Bool, true, false, cond, ◌||◌}
use mathlib.Core.Path.{◌≡◌, refl, ap}
use lib.Dec.{eqb}
use lib.ListN.{length}
use Rattle.refusal.specs.declared.Refusal.TheVariants.{Fcode, Mode, BitsPerPixel, Seed}
use Rattle.std.specs.Prelude.{Ok}
use Rattle.refusal.specs.Reply.{unless, and_then}
use Rattle.refusal.specs.Test.{between}
use Rattle.refusal.proofs.Replies.{first_done, then_done, both_done, unless-done, after}
use Rattle.record.specs.declared.MotionVector.{MotionVector}
use Rattle.plane.specs.declared.SourceSize.{SourceSize}
use Rattle.plane.specs.declared.MacroblockPlace.{MacroblockPlace}
use Rattle.plane.specs.Reference.{reference_reply}
use Rattle.plane.specs.Source.{source_luma_reply, source_luma_block_reply}
use Rattle.plane.proofs.Ready.{length-done}
use Rattle.plane.proofs.ReadySource.{LumaReady, luma_ready, column_small, row_small}
use Rattle.prediction.specs.declared.BVopSampleMode.TheVariants.{HalfPel, QuarterPel}
use Rattle.prediction.specs.Macroblock.{mode_reply}
use Rattle.search.specs.Range.{vector_in}
use Rattle.search.specs.Request.{SearchRequest, settings_in, settings_reply, search_reply, seed_reply, four_reply}
use Rattle.search.specs.Told.{Set, Judged}

-- 3 asks for bits per pixel in quarter mode alone
mode_done : (half : Bool) (bpp : ℕ) → (half || between 1 8 bpp) ≡ true → mode_reply (cond half HalfPel (QuarterPel bpp)) ≡ Ok tt
mode_done true bpp e = refl
mode_done false bpp e = ap (λ (t : Bool). unless t BitsPerPixel (Ok tt)) e

pub settings_done : (rounding : ℕ) (q : SearchRequest) → settings_reply q.fcode q.mode q.bpp ≡ Ok tt → Set (settings_in rounding q)
unfolding settings_reply
settings_done rounding q e =
    let half = eqb q.mode 0 in
    let bits = unless (half || between 1 8 q.bpp) BitsPerPixel (Ok tt) in
    let modes = unless (half || eqb q.mode 1) Mode bits in
    let n = after (half || eqb q.mode 1) Mode bits (after (between 1 7 q.fcode) Fcode modes e) in
    record {
      mode_usable = mode_done half q.bpp (unless-done (half || between 1 8 q.bpp) BitsPerPixel (Ok tt) n);
      fcode_usable = unless-done (between 1 7 q.fcode) Fcode modes e;
    }

module _ (q : SearchRequest) where
  -- 1, 2, 3 come first
  pub search_set : (rounding : ℕ) → search_reply q ≡ Ok tt → Set (settings_in rounding q)
  unfolding search_reply
  search_set rounding e =
      let rest = and_then (reference_reply q.geometry (length q.reference)) (source_luma_reply q.size (length q.source) q.place) in
      settings_done rounding q (first_done (settings_reply q.fcode q.mode q.bpp) rest e)

  pub search_fcode : search_reply q ≡ Ok tt → between 1 7 q.fcode ≡ true
  search_fcode e = (search_set 0 e).fcode_usable

  -- at any rounding type
  pub search_done : (rounding : ℕ) → search_reply q ≡ Ok tt
      → Judged q (settings_in rounding q)
  unfolding search_reply
  search_done rounding e =
      let r = reference_reply q.geometry (length q.reference) in
      let l = source_luma_reply q.size (length q.source) q.place in
      let n = then_done (settings_reply q.fcode q.mode q.bpp) (and_then r l) e in
      record { settings = search_set rounding e; reference = first_done r l n; luma = then_done r l n }

  module _ (seed : MotionVector) (e : four_reply q seed ≡ Ok tt) where
    -- with four vectors the seed is in range too
    pub four_done : (rounding : ℕ) → Judged q (settings_in rounding q)
    unfolding four_reply
    four_done rounding = search_done rounding (first_done (search_reply q) (seed_reply q.fcode seed) e)

    pub seed_done : vector_in q.fcode seed ≡ true
    unfolding four_reply seed_reply
    seed_done = unless-done (vector_in q.fcode seed) Seed (Ok tt) (then_done (search_reply q) (seed_reply q.fcode seed) e)

module _ (s : SourceSize) (y : ℕ) (at : MacroblockPlace) (e : source_luma_reply s y at ≡ Ok tt) where
  ready : LumaReady s y at
  ready = luma_ready s y at e

  -- its samples can be copied
  pub block_done : source_luma_block_reply s y at 256 ≡ Ok tt
  block_done = both_done e (length-done 256 16 16 refl)

  -- where a macroblock starts
  pub column_most : 16 * at.column ≤ 4080
  column_most = omega (arith, column_small s at ready.sides ready.place)

  pub row_most : 16 * at.row ≤ 4080
  row_most = omega (arith, row_small s at ready.sides ready.place)
