-- What holds where nothing is refused. Assumes nothing.
use Prim.Native.Nat.{ℕ, ◌+◌, ◌-◌, ◌*◌, ◌≤◌, ◌<◌}
use native.Mathlib.Omega.{arith}
use mathlib.Core.Bool.{Bool, true, ◌&&◌}
use mathlib.Core.List.{List}
use mathlib.Core.Path.{◌≡◌, ap, ap₂, ◌∙◌}
use lib.Dec.{ltb, eqb}
use lib.IntN.{pos, negsuc}
use lib.ListN.{length}
use borrow.Author.Tests.{ltb-true, lt-ltb, eqb-true, eq-eqb}
use Rattle.basis.proofs.Bounds.{product_le}
use Rattle.refusal.specs.declared.Refusal.TheVariants.{ReferenceSize, ReferenceBytes, Place, Length, Choice}
use Rattle.refusal.specs.Reply.{Reply}
use Rattle.std.specs.Prelude.{Ok}
use Rattle.refusal.specs.Reply.{unless, and_then}
use Rattle.refusal.specs.Test.{between, in_range}
use Rattle.refusal.proofs.Replies.{first_done, then_done, both_done, unless-done}
use Rattle.refusal.proofs.Tests.{and_left, and_right, or_elim, between-low, between-high}
use Rattle.record.specs.declared.MotionVector.{MotionVector}
use Rattle.plane.specs.declared.Geometry.{Geometry}
use Rattle.plane.specs.declared.Point.{Point}
use Rattle.plane.specs.declared.Site.{Site}
use Rattle.plane.specs.Plane.{plane_of}
use Rattle.plane.specs.ToldHeld.{Held}
use Rattle.plane.specs.Reference.{sized, reference_size_reply, reference_bytes_reply, reference_reply, origin_in_range, vector_in_range, motion_reply, length_reply, is_side, side_reply, block_reply, copy_reply, same_reply}

-- the sizes of a reference
pub record Sized (g : Geometry) : Type 0 where
  pub low_w : 1 ≤ g.width
  pub high_w : g.width ≤ 4096
  pub low_h : 1 ≤ g.height
  pub high_h : g.height ≤ 4096
  pub high_t : g.stride ≤ 8192

pub sized_is : (g : Geometry) → sized g ≡ true → Sized g
sized_is g e =
    let w = and_left (between 1 4096 g.width) (between 1 4096 g.height && between g.width 8192 g.stride) e in
    let r = and_right (between 1 4096 g.width) (between 1 4096 g.height && between g.width 8192 g.stride) e in
    let h = and_left (between 1 4096 g.height) (between g.width 8192 g.stride) r in
    let t = and_right (between 1 4096 g.height) (between g.width 8192 g.stride) r in
    record {
      low_w = between-low 1 4096 g.width w;
      high_w = between-high 1 4096 g.width w;
      low_h = between-low 1 4096 g.height h;
      high_h = between-high 1 4096 g.height h;
      high_t = between-high g.width 8192 g.stride t;
    }

-- the last row starts where a product still fits
pub last_fits : (g : Geometry) → Sized g → (g.height - 1) * g.stride ≤ 4096 * 8192
last_fits g s =
    let h : g.height - 1 ≤ 4096 = omega (arith, s.high_h) in
    product_le h s.high_t

-- a reference that is not refused: its sizes, and its samples hold it
pub record Usable (s : List ℕ) (g : Geometry) : Type 0 where
  pub within : Sized g
  pub hold : Held (plane_of s g)

pub usable : (s : List ℕ) (g : Geometry) → reference_reply g (length s) ≡ Ok tt → Usable s g
unfolding reference_reply reference_size_reply reference_bytes_reply
usable s g e =
    let last = (g.height - 1) * g.stride + (g.width - 1) in
    let b = then_done (reference_size_reply g) (reference_bytes_reply g (length s)) e in
    let z = sized_is g (unless-done (sized g) ReferenceSize (Ok tt) (first_done (reference_size_reply g) (reference_bytes_reply g (length s)) e)) in
    record {
      within = z;
      hold = record { wide = z.low_w; high = z.low_h; last = ltb-true last (length s) (unless-done (ltb last (length s)) ReferenceBytes (Ok tt) b) };
    }

pub length_is : (area w h : ℕ) → length_reply area w h ≡ Ok tt → area ≡ w * h
unfolding length_reply
length_is area w h e = eqb-true area (w * h) (unless-done (eqb area (w * h)) Length (Ok tt) e)

pub length-done : (area w h : ℕ) → area ≡ w * h → length_reply area w h ≡ Ok tt
unfolding length_reply
length-done area w h e = ap (λ (t : Bool). unless t Length (Ok tt)) (eq-eqb area (w * h) e)

pub same_done : (n area : ℕ) → n ≡ area → same_reply n area ≡ Ok tt
same_done n area e = ap (λ (t : Bool). unless t Length (Ok tt)) (eq-eqb n area e)

-- a copy of a reference that is usable, into an area that fits
pub copy_done : (g : Geometry) (bytes w h area : ℕ) → reference_reply g bytes ≡ Ok tt → area ≡ w * h → copy_reply g bytes w h area ≡ Ok tt
unfolding copy_reply
copy_done g bytes w h area e f = ap (λ (r : Reply). and_then r (length_reply area w h)) e ∙ length-done area w h f

-- an interpolation whose parts are in range
pub block_done : (g : Geometry) (bytes : ℕ) (v : MotionVector) (s : Site) (area : ℕ) → reference_reply g bytes ≡ Ok tt → motion_reply v s.corner ≡ Ok tt
    → area ≡ s.width * s.height → is_side s.width ≡ true → is_side s.height ≡ true → block_reply g bytes v s area ≡ Ok tt
unfolding block_reply side_reply
block_done g bytes v s area e f k p q =
    let w = s.width in
    let h = s.height in
    both_done e (both_done f (both_done (length-done area w h k) (ap₂ (λ (t u : Bool). unless (t && u) Choice (Ok tt)) p q)))

-- sizes in bounds and samples enough
pub reference_done : (g : Geometry) (bytes : ℕ) → sized g ≡ true → (g.height - 1) * g.stride + (g.width - 1) < bytes → reference_reply g bytes ≡ Ok tt
unfolding reference_reply reference_size_reply reference_bytes_reply
reference_done g bytes e h =
    ap₂ (λ (s t : Bool). and_then (unless s ReferenceSize (Ok tt)) (unless t ReferenceBytes (Ok tt))) e (lt-ltb ((g.height - 1) * g.stride + (g.width - 1)) bytes h)

-- an origin and a vector in range
pub motion_done : (v : MotionVector) (o : Point) → origin_in_range o ≡ true → vector_in_range v ≡ true → motion_reply v o ≡ Ok tt
unfolding motion_reply
motion_done v o e f = ap₂ (λ (s t : Bool). unless (s && t) Place (Ok tt)) e f

-- a motion that is not refused starts in range
pub origin_ready : (v : MotionVector) (o : Point) → motion_reply v o ≡ Ok tt → origin_in_range o ≡ true
unfolding motion_reply
origin_ready v o e = and_left (origin_in_range o) (vector_in_range v) (unless-done (origin_in_range o && vector_in_range v) Place (Ok tt) e)

-- a block side is 8 or 16
pub record Side (n : ℕ) : Type 0 where
  pub low : 8 ≤ n
  pub high : n ≤ 16

side_is : (n : ℕ) → is_side n ≡ true → Side n
side_is n e =
    or_elim (eqb n 8) (eqb n 16) (Side n)
    (λ q. let k = eqb-true n 8 q in record { low = omega arith; high = omega arith })
    (λ q. let k = eqb-true n 16 q in record { low = omega arith; high = omega arith }) e

-- each test of an interpolation has passed
pub record BlockReady (l : List ℕ) (g : Geometry) (v : MotionVector) (s : Site) (area : ℕ) : Type 0 where
  pub reference : reference_reply g (length l) ≡ Ok tt
  pub corner_x : in_range (negsuc 4095) (pos 4096) s.corner.x ≡ true
  pub corner_y : in_range (negsuc 4095) (pos 4096) s.corner.y ≡ true
  pub vector_x : in_range (negsuc 2047) (pos 2047) v.x ≡ true
  pub vector_y : in_range (negsuc 2047) (pos 2047) v.y ≡ true
  pub fits : area ≡ s.width * s.height
  pub side_w : Side s.width
  pub side_h : Side s.height

pub block_ready : (l : List ℕ) (g : Geometry) (v : MotionVector) (s : Site) (area : ℕ) → block_reply g (length l) v s area ≡ Ok tt → BlockReady l g v s area
unfolding block_reply motion_reply side_reply
block_ready l g v s area e =
    let o = s.corner in
    let w = s.width in
    let h = s.height in
    let r = reference_reply g (length l) in
    let m = motion_reply v o in
    let n = length_reply area w h in
    let e1 = then_done r (and_then m (and_then n (side_reply w h))) e in
    let e2 = then_done m (and_then n (side_reply w h)) e1 in
    let moved = unless-done (origin_in_range o && vector_in_range v) Place (Ok tt) (first_done m (and_then n (side_reply w h)) e1) in
    let at = and_left (origin_in_range o) (vector_in_range v) moved in
    let by = and_right (origin_in_range o) (vector_in_range v) moved in
    let sides = unless-done (is_side w && is_side h) Choice (Ok tt) (then_done n (side_reply w h) e2) in
    record {
      reference = first_done r (and_then m (and_then n (side_reply w h))) e;
      corner_x = and_left (in_range (negsuc 4095) (pos 4096) o.x) (in_range (negsuc 4095) (pos 4096) o.y) at;
      corner_y = and_right (in_range (negsuc 4095) (pos 4096) o.x) (in_range (negsuc 4095) (pos 4096) o.y) at;
      vector_x = and_left (in_range (negsuc 2047) (pos 2047) v.x) (in_range (negsuc 2047) (pos 2047) v.y) by;
      vector_y = and_right (in_range (negsuc 2047) (pos 2047) v.x) (in_range (negsuc 2047) (pos 2047) v.y) by;
      fits = length_is area w h (first_done n (side_reply w h) e2);
      side_w = side_is w (and_left (is_side w) (is_side h) sides);
      side_h = side_is h (and_right (is_side w) (is_side h) sides);
    }
