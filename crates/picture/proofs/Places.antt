-- Whether a picture has a macroblock left, which the code tells by division, and where the next one stands. Assumes nothing.
use Rattle.std.proofs.Common.{◌≡◌, ℕ, zero, suc, ◌*◌, ◌/◌, ◌%◌, ◌<◌, false, ◌&&◌, eqb, ltb, sym, refl, ap, ◌∙◌, mod-lt, mul_comm, div-lt_iff_lt-mul, zero-mul, arith, ltb-true, le-ltb, lt-ltb, eqb-true}
use Rattle.basis.proofs.Case.{both, leb_same}
use Rattle.refusal.specs.declared.Refusal.TheVariants.{AfterLast, OtherSize, Place}
use Rattle.std.specs.Prelude.{Ok}
use Rattle.refusal.specs.Reply.{unless}
use Rattle.refusal.proofs.Replies.{unless-done, after, passed}
use Rattle.refusal.proofs.Tests.{and_left, and_right}
use Rattle.plane.specs.declared.SourceSize.{SourceSize}
use Rattle.plane.specs.Source.{macroblocks_of, place_reply}
use Rattle.picture.specs.declared.Run.{Run}
use Rattle.picture.specs.Run.{macroblocks_in, next_place, run_reply}

-- ---- n macroblocks given, of w columns and h rows

-- without columns none is left; with some, n over them is a row
pub none_left : (n w h : ℕ) → w ≡ 0 → false ≡ ltb n (w * h)
none_left n w h e = sym (le-ltb n (w * h) (omega (arith, ap (λ (k : ℕ). k * h) e ∙ zero-mul h)))

pub row_left : (n w h : ℕ) → 0 < w → ltb (n / w) h ≡ ltb n (w * h)
row_left n w h some =
    leb_same (suc (n / w)) h (suc n) (w * h)
    (λ p. omega (arith, mul_comm w h, (div-lt_iff_lt-mul {x = n} {y = h} some).0 p))
    (λ p. (div-lt_iff_lt-mul {x = n} {y = h} some).1 (omega (arith, mul_comm w h)))

some_column : (n w h : ℕ) → n < w * h → 0 < w
some_column n zero h p = absurd (omega (arith, zero-mul h))
some_column n (suc w) h p = omega arith

some_row : (n w h : ℕ) → n < w * h → n / w < h
some_row n w h p = (div-lt_iff_lt-mul {x = n} {y = h} (some_column n w h p)).1 (omega (arith, mul_comm w h))

-- ---- a run that lets a step through

pub record LetThrough (r : Run) (s : SourceSize) : Type 0 where
  pub left : r.macroblocks < macroblocks_in r.size
  pub width : r.size.width ≡ s.width
  pub height : r.size.height ≡ s.height

pub let_through : (r : Run) (s : SourceSize) → run_reply r s ≡ Ok tt → LetThrough r s
unfolding run_reply
let_through r s e =
    let w = eqb r.size.width s.width in
    let h = eqb r.size.height s.height in
    let next = ltb r.macroblocks (macroblocks_in r.size) in
    let same = unless-done (w && h) OtherSize (Ok tt) (after next AfterLast (unless (w && h) OtherSize (Ok tt)) e) in
    record {
      left = ltb-true _ _ (unless-done next AfterLast (unless (w && h) OtherSize (Ok tt)) e);
      width = eqb-true _ _ (and_left w h same);
      height = eqb-true _ _ (and_right w h same);
    }

-- it has a column
pub has_column : (r : Run) (s : SourceSize) → run_reply r s ≡ Ok tt → 0 < macroblocks_of r.size.width
has_column r s e = some_column r.macroblocks (macroblocks_of r.size.width) (macroblocks_of r.size.height) (let_through r s e).left

-- and its next place lies in the source that is handed in
pub step_inside : (r : Run) (s : SourceSize) → run_reply r s ≡ Ok tt → place_reply s (next_place r) ≡ Ok tt
unfolding place_reply
step_inside r s e =
    let t = let_through r s e in
    let w = macroblocks_of r.size.width in
    let h = macroblocks_of r.size.height in
    let column : r.macroblocks % w < macroblocks_of s.width = rw (← t.width) (mod-lt r.macroblocks (has_column r s e)) in
    let row : r.macroblocks / w < macroblocks_of s.height = rw (← t.height) (some_row r.macroblocks w h t.left) in
    passed _ Place (both (lt-ltb _ _ column) (lt-ltb _ _ row)) refl
