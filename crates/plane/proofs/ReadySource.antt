-- What holds of a source that is not refused. Assumes nothing.
use Prim.Native.Nat.{ℕ, ◌-◌, ◌*◌, ◌/◌, ◌≤◌, ◌<◌}
use native.Mathlib.Omega.{arith}
use native.Mathlib.Nat.{le-div_iff_mul-le, mul_comm, zero-mul}
use mathlib.Core.Bool.{Bool, true, ◌&&◌}
use mathlib.Core.List.{List}
use mathlib.Core.Path.{◌≡◌, sym, ap, ◌∙◌}
use lib.Dec.{leb, ltb}
use lib.ListN.{length}
use borrow.Author.Tests.{leb-true, le-leb, ltb-true}
use Rattle.basis.proofs.Bounds.{row_before}
use Rattle.basis.proofs.Case.{leb_same}
use Rattle.refusal.specs.declared.Refusal.TheVariants.{SourceSide, SourcePlane, Place}
use Rattle.refusal.specs.Reply.{Reply}
use Rattle.std.specs.Prelude.{Ok}
use Rattle.refusal.specs.Reply.{unless, and_then, done}
use Rattle.refusal.specs.Test.{between}
use Rattle.refusal.proofs.Replies.{joined, first_done, then_done, unless-done, after, both_done, left}
use Rattle.refusal.proofs.Tests.{and_left, and_right, between-low, between-high}
use Rattle.plane.specs.declared.SourceSize.{SourceSize}
use Rattle.plane.specs.declared.MacroblockPlace.{MacroblockPlace}
use Rattle.plane.specs.ToldHeld.{Held}
use Rattle.plane.specs.Reference.{length_reply}
use Rattle.plane.specs.Source.{chroma_size, packed, source_side_reply, holds, macroblocks_of, place_reply, source_luma_reply, source_chroma_reply, source_reply, source_luma, source_chroma, source_luma_block_reply, source_chroma_block_reply}
use Rattle.plane.proofs.Ready.{length-done}

-- a plane without columns, and one that has some
pub holds_none : (n w h : ℕ) → w ≡ 0 → true ≡ leb (w * h) n
holds_none n w h e = sym (le-leb (w * h) n (omega (arith, ap (λ (k : ℕ). k * h) e ∙ zero-mul h)))

pub holds_some : (n w h : ℕ) → (w ≡ 0 → ⊥) → leb h (n / w) ≡ leb (w * h) n
holds_some n w h t =
    leb_same h (n / w) (w * h) n
    (λ p. omega (arith, mul_comm w h, (le-div_iff_mul-le some).0 p))
    (λ p. (le-div_iff_mul-le some).1 (omega (arith, mul_comm w h)))
  where
    some : 0 < w
    some = omega (arith, t)

-- 6, 7, 8 in a row, as the code joins them
pub planes_judged : {r a a' b n n' : Reply} {t t' : Bool} → r ≡ and_then a b → a ≡ a' → b ≡ unless t SourcePlane n → t ≡ t' → n ≡ n'
    → r ≡ and_then a' (unless t' SourcePlane n')
planes_judged {r} {a} {a'} {b} {n} {n'} {t} {t'} e p q u v =
    joined e p (q ∙ ap (λ (x : Bool). unless x SourcePlane n) u ∙ ap (unless t' SourcePlane) v)

-- sides that are not refused
pub record Sides (s : SourceSize) : Type 0 where
  pub low_w : 1 ≤ s.width
  pub high_w : s.width ≤ 4096
  pub low_h : 1 ≤ s.height
  pub high_h : s.height ≤ 4096

pub sides_are : (s : SourceSize) → source_side_reply s ≡ Ok tt → Sides s
unfolding source_side_reply
sides_are s e =
    let t = unless-done (between 1 4096 s.width && between 1 4096 s.height) SourceSide (Ok tt) e in
    let w = and_left (between 1 4096 s.width) (between 1 4096 s.height) t in
    let h = and_right (between 1 4096 s.width) (between 1 4096 s.height) t in
    record {
      low_w = between-low 1 4096 s.width w;
      high_w = between-high 1 4096 s.width w;
      low_h = between-low 1 4096 s.height h;
      high_h = between-high 1 4096 s.height h;
    }

-- a macroblock of the source
pub record InSource (s : SourceSize) (at : MacroblockPlace) : Type 0 where
  pub column : at.column < macroblocks_of s.width
  pub row : at.row < macroblocks_of s.height

pub in_source : (s : SourceSize) (at : MacroblockPlace) → place_reply s at ≡ Ok tt → InSource s at
unfolding place_reply
in_source s at e =
    let c = ltb at.column (macroblocks_of s.width) in
    let r = ltb at.row (macroblocks_of s.height) in
    let t = unless-done (c && r) Place (Ok tt) e in
    record { column = ltb-true _ _ (and_left c r t); row = ltb-true _ _ (and_right c r t) }

-- 6, 7, 8 in a row, whatever 7 tests
record Judged (s : SourceSize) (t : Bool) (at : MacroblockPlace) : Type 0 where
  pub sides : Sides s
  pub planes : t ≡ true
  pub place : InSource s at

judged : (s : SourceSize) (t : Bool) (at : MacroblockPlace) → and_then (source_side_reply s) (unless t SourcePlane (place_reply s at)) ≡ Ok tt → Judged s t at
judged s t at e =
    let n = then_done (source_side_reply s) (unless t SourcePlane (place_reply s at)) e in
    record {
      sides = sides_are s (first_done (source_side_reply s) (unless t SourcePlane (place_reply s at)) e);
      planes = unless-done t SourcePlane (place_reply s at) n;
      place = in_source s at (after t SourcePlane (place_reply s at) n);
    }

-- a macroblock of a source whose luma plane is handed in, y samples of it
pub record LumaReady (s : SourceSize) (y : ℕ) (at : MacroblockPlace) : Type 0 where
  pub sides : Sides s
  pub luma : s.width * s.height ≤ y
  pub place : InSource s at

pub luma_ready : (s : SourceSize) (y : ℕ) (at : MacroblockPlace) → source_luma_reply s y at ≡ Ok tt → LumaReady s y at
unfolding source_luma_reply
luma_ready s y at e =
    let j = judged s (holds s y) at e in
    record { sides = j.sides; luma = leb-true _ _ j.planes; place = j.place }

-- one chroma plane is
pub record ChromaReady (s : SourceSize) (c : ℕ) (at : MacroblockPlace) : Type 0 where
  pub sides : Sides s
  pub chroma : (chroma_size s).width * (chroma_size s).height ≤ c
  pub place : InSource s at

pub chroma_ready : (s : SourceSize) (c : ℕ) (at : MacroblockPlace) → source_chroma_reply s c at ≡ Ok tt → ChromaReady s c at
unfolding source_chroma_reply
chroma_ready s c at e =
    let j = judged s (holds (chroma_size s) c) at e in
    record { sides = j.sides; chroma = leb-true _ _ j.planes; place = j.place }

-- a plane as long as its width times its height holds its samples
packed_held : (l : List ℕ) (s : SourceSize) → 1 ≤ s.width → 1 ≤ s.height → s.width * s.height ≤ length l → Held (packed l s)
packed_held l s w h n =
    record {
      wide = w;
      high = h;
      last = omega (arith, row_before {j = s.height - 1} {n = s.height} s.width (omega arith), mul_comm s.width s.height);
    }

pub luma_held : (y : List ℕ) (s : SourceSize) (at : MacroblockPlace) → LumaReady s (length y) at → Held (packed y s)
luma_held y s at r = packed_held y s r.sides.low_w r.sides.low_h r.luma

pub chroma_held : (c : List ℕ) (s : SourceSize) (at : MacroblockPlace) → ChromaReady s (length c) at → Held (packed c (chroma_size s))
chroma_held c s at r = packed_held c (chroma_size s) (omega (arith, r.sides.low_w)) (omega (arith, r.sides.low_h)) r.chroma

-- a source has at most 256 columns and rows of macroblocks
pub column_small : (s : SourceSize) (at : MacroblockPlace) → Sides s → InSource s at → at.column < 256
column_small s at b p = omega (arith, b.high_w, p.column)

pub row_small : (s : SourceSize) (at : MacroblockPlace) → Sides s → InSource s at → at.row < 256
row_small s at b p = omega (arith, b.high_h, p.row)

-- a source whose three planes are handed in and which is not refused: no plane alone is, and its block is copied
module _ (s : SourceSize) (y cb cr : ℕ) (at : MacroblockPlace) (e : source_reply s y cb cr at ≡ Ok tt) where
  abbrev three : Bool
  three = holds s y && (holds (chroma_size s) cb && holds (chroma_size s) cr)

  past_side : unless three SourcePlane (place_reply s at) ≡ Ok tt
  unfolding source_reply
  past_side = then_done (source_side_reply s) (unless three SourcePlane (place_reply s at)) e

  -- with one plane's test in place of three
  one_plane : (t : Bool) → t ≡ true → and_then (source_side_reply s) (unless t SourcePlane (place_reply s at)) ≡ Ok tt
  unfolding source_reply
  one_plane t h =
      ap (λ (r : Reply). and_then r (unless t SourcePlane (place_reply s at))) (first_done (source_side_reply s) (unless three SourcePlane (place_reply s at)) e)
      ∙ ap (λ (u : Bool). unless u SourcePlane (place_reply s at)) h
      ∙ after three SourcePlane (place_reply s at) past_side

  three_held : three ≡ true
  three_held = unless-done three SourcePlane (place_reply s at) past_side

  pub luma_alone : source_luma_reply s y at ≡ Ok tt
  unfolding source_luma_reply
  luma_alone = one_plane (holds s y) (and_left (holds s y) (holds (chroma_size s) cb && holds (chroma_size s) cr) three_held)

  two_held : (holds (chroma_size s) cb && holds (chroma_size s) cr) ≡ true
  two_held = and_right (holds s y) (holds (chroma_size s) cb && holds (chroma_size s) cr) three_held

  pub blue_alone : source_chroma_reply s cb at ≡ Ok tt
  unfolding source_chroma_reply
  blue_alone = one_plane (holds (chroma_size s) cb) (and_left (holds (chroma_size s) cb) (holds (chroma_size s) cr) two_held)

  pub red_alone : source_chroma_reply s cr at ≡ Ok tt
  unfolding source_chroma_reply
  red_alone = one_plane (holds (chroma_size s) cr) (and_right (holds (chroma_size s) cb) (holds (chroma_size s) cr) two_held)

-- an area of w h places, where nothing is refused, holds the block
block_is : (judged : Reply) (w h : ℕ) (block old out : List ℕ) (r : Reply) → judged ≡ Ok tt → length old ≡ w * h
    → r ≡ and_then judged (length_reply (length old) w h) → out ≡ done r block old → out ≡ block
block_is judged w h block old out r e f k o = left r _ block old out k (both_done e (length-done (length old) w h f)) o

pub luma_is : (y : List ℕ) (s : SourceSize) (at : MacroblockPlace) (r : Reply) (old out : List ℕ) → source_luma_reply s (length y) at ≡ Ok tt → length old ≡ 256
    → r ≡ source_luma_block_reply s (length y) at (length old) → out ≡ done r (source_luma y s at) old → out ≡ source_luma y s at
luma_is y s at r old out = block_is (source_luma_reply s (length y) at) 16 16 (source_luma y s at) old out r

pub chroma_is : (c : List ℕ) (s : SourceSize) (at : MacroblockPlace) (r : Reply) (old out : List ℕ) → source_chroma_reply s (length c) at ≡ Ok tt → length old ≡ 64
    → r ≡ source_chroma_block_reply s (length c) at (length old) → out ≡ done r (source_chroma c s at) old → out ≡ source_chroma c s at
chroma_is c s at r old out = block_is (source_chroma_reply s (length c) at) 8 8 (source_chroma c s at) old out r
