-- Averages of rows are the samples of the definition, at any width and height. Assumes nothing.
use Prim.Native.Nat.{ℕ, ◌+◌, ◌<◌, ◌≤◌}
use native.Mathlib.Omega.{arith}
use mathlib.Core.Bool.{Bool, true, false}
use mathlib.Core.Path.{◌≡◌, refl, ap, ap₂, ◌∙◌}
use mathlib.Core.List.{List}
use lib.IntN.{ℤ, pos}
use lib.ListN.{get_or}
use Rattle.basis.specs.Lists.{tabulate, raster}
use Rattle.basis.proofs.Lists.{tabulate_cong, raster_cong}
use Rattle.plane.specs.Plane.{Plane, copied}
use Rattle.plane.proofs.Copied.{copy_of, copied_twice}
use Rattle.plane.specs.declared.Point.{Point}
use Rattle.plane.specs.declared.Site.{Site}
use Rattle.half_sample.specs.declared.Halves.{Halves}
use Rattle.half_sample.specs.Average.{average2_of, average4_of, pixel_of}
use Rattle.half_sample.specs.ToldRows.{samples_for, average_at, sample_by, block_by}

pub samples_for_one : (n : ℕ) (b : Bool) → b ≡ true → samples_for n b ≡ n + 1
samples_for_one n b e = ap (samples_for n) e

pub samples_for-low : (n : ℕ) (b : Bool) → n ≤ samples_for n b
samples_for-low n true = omega arith
samples_for-low n false = omega arith

-- a sample reads its neighbours only where it lies between them
pixel_cong : (hx hy : Bool) (a a' b b' c c' d d' rc : ℕ) → a ≡ a' → (hx ≡ true → b ≡ b') → (hy ≡ true → c ≡ c')
    → (hx ≡ true → hy ≡ true → d ≡ d') → pixel_of a b c d hx hy rc ≡ pixel_of a' b' c' d' hx hy rc
pixel_cong false false a a' b b' c c' d d' rc p q r s = p
pixel_cong true false a a' b b' c c' d d' rc p q r s = ap₂ (λ (x y : ℕ). average2_of x y rc) p (q refl)
pixel_cong false true a a' b b' c c' d d' rc p q r s = ap₂ (λ (x y : ℕ). average2_of x y rc) p (r refl)
pixel_cong true true a a' b b' c c' d d' rc p q r s =
    ap₂ (λ (x y : ℕ). average4_of x y c d rc) p (q refl) ∙ ap₂ (λ (x y : ℕ). average4_of a' b' x y rc) (r refl) (s refl refl)

-- columns i and i + 1 are within reach
here : (n : ℕ) (b : Bool) (i : ℕ) → i < n → i < samples_for n b
here n b i h = omega (arith, samples_for-low n b)

next : (n : ℕ) (b : Bool) (i : ℕ) → i < n → b ≡ true → i + 1 < samples_for n b
next n b i h e = omega (arith, samples_for_one n b e)

-- a row that is averaged between two rows of a plane
pub averaged_row : (p : Plane) (x y : ℤ) (top low : List ℕ) (halves : Halves) (n j : ℕ)
    → ((i : ℕ) → i < samples_for n halves.x → get_or top i 0 ≡ copied p x y i j)
    → ((i : ℕ) → i < samples_for n halves.x → get_or low i 0 ≡ copied p x y i (j + 1))
    → tabulate n (average_at top low halves) ≡ tabulate n (λ i. sample_by p x y halves i j)
averaged_row p x y top low halves n j t l =
    let hx = halves.x in
    tabulate_cong n (average_at top low halves) (λ i. sample_by p x y halves i j)
    (λ i h.
    pixel_cong hx halves.y (get_or top i 0) (copied p x y i j) (get_or top (i + 1) 0) (copied p x y (i + 1) j)
    (get_or low i 0) (copied p x y i (j + 1)) (get_or low (i + 1) 0) (copied p x y (i + 1) (j + 1)) halves.rc
    (t i (here n hx i h)) (λ e. t (i + 1) (next n hx i h e)) (λ f. l i (here n hx i h)) (λ e f. l (i + 1) (next n hx i h e)))

-- the copy of a block that is averaged
abbrev pub copy_by : Plane → Point → Site → Halves → Plane
copy_by p at site halves =
    copy_of p at.x at.y (samples_for site.width halves.x) (samples_for site.height halves.y)

-- it is averaged within its copy
module _ (p : Plane) (at : Point) (site : Site) (halves : Halves) where
  abbrev w : ℕ
  w = site.width

  abbrev h : ℕ
  h = site.height

  abbrev x : ℤ
  x = at.x

  abbrev y : ℤ
  y = at.y

  abbrev hx : Bool
  hx = halves.x

  abbrev hy : Bool
  hy = halves.y

  abbrev q : Plane
  q = copy_by p at site halves

  same : (i j : ℕ) → i < samples_for w hx → j < samples_for h hy → copied q (pos 0) (pos 0) i j ≡ copied p x y i j
  same i j a b = copied_twice p x y (samples_for w hx) (samples_for h hy) i j a b

  pub averaged_copy : raster site.width site.height (sample_by (copy_by p at site halves) (pos 0) (pos 0) halves) ≡ block_by p at site halves
  averaged_copy =
      raster_cong w h (sample_by q (pos 0) (pos 0) halves) (sample_by p x y halves)
      (λ i j a b.
      pixel_cong hx hy (copied q (pos 0) (pos 0) i j) (copied p x y i j) (copied q (pos 0) (pos 0) (i + 1) j) (copied p x y (i + 1) j)
      (copied q (pos 0) (pos 0) i (j + 1)) (copied p x y i (j + 1)) (copied q (pos 0) (pos 0) (i + 1) (j + 1)) (copied p x y (i + 1) (j + 1)) halves.rc
      (same i j (here w hx i a) (here h hy j b)) (λ e. same (i + 1) j (next w hx i a e) (here h hy j b))
      (λ f. same i (j + 1) (here w hx i a) (next h hy j b f)) (λ e f. same (i + 1) (j + 1) (next w hx i a e) (next h hy j b f)))
