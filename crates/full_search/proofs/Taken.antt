-- Searches and sums that are not refused: what they may rely on, and what they then answer. Assumes nothing.
use Prim.Native.Nat.{ℕ, ◌*◌, ◌≤◌}
use native.Mathlib.Omega.{arith}
use mathlib.Core.Bool.{Bool, true, ◌&&◌}
use mathlib.Core.List.{List}
use mathlib.Core.Path.{◌≡◌, refl, sym, ap, ◌∙◌}
use lib.Dec.{eqb, leb}
use lib.IntN.{ℤ, pos, negsuc}
use lib.ListN.{length}
use borrow.Author.Tests.{leb-true, le-leb, eqb-true, eq-eqb}
use Rattle.basis.specs.Parts.{above, below}
use Rattle.basis.proofs.Case.{both}
use Rattle.basis.proofs.Parts.{sides}
use Rattle.refusal.specs.declared.Refusal.TheVariants.{Fcode, Place, Seed, Choice}
use Rattle.refusal.specs.Reply.{Reply}
use Rattle.std.specs.Prelude.{Ok}
use Rattle.refusal.specs.Reply.{unless, and_then, answer, done}
use Rattle.refusal.specs.Test.{in_range}
use Rattle.refusal.proofs.Replies.{first_done, then_done, both_done, passed, unless-done}
use Rattle.refusal.proofs.Tests.{and_left, and_right, range-low, range-high, range_is}
use Rattle.record.specs.declared.MotionVector.{MotionVector}
use Rattle.plane.specs.declared.Point.{Point}
use Rattle.plane.specs.Reference.{vector_in_range, reference_reply, length_reply, is_side, side_reply}
use Rattle.plane.proofs.Ready.{length_is, length-done}
use Rattle.prediction.specs.declared.BVopSampleMode.{BVopSampleMode}
use Rattle.full_search.specs.declared.Target.{Target}
use Rattle.full_search.specs.Block.{differences, row_by_row, block_of}
use Rattle.full_search.specs.Won.{window_reply, placed_reply, square_reply, sixteen_reply, seed_size_reply, eight_reply, sum_reply}
use Rattle.full_search.specs.Won.{sixteen_best, eight_best, sixteen_won, eight_won, sum_of}
use Rattle.full_search.specs.Told.{Within, Inside, Ready}
use Rattle.full_search.proofs.EqualSums.{listed_sum}
use Rattle.full_search.proofs.Sides.{listed_fits, source_fits}

-- ---- corners and seeds

abbrev within : ℤ → Bool
within z = in_range (pos 0) (pos 4088) z

inside_is : (at : Point) → (within at.x && within at.y) ≡ true → Inside at
inside_is at e =
    let x = and_left (within at.x) (within at.y) e in
    let y = and_right (within at.x) (within at.y) e in
    record {
      x_most = omega (arith, range-low (pos 0) (pos 4088) at.x x, range-high (pos 0) (pos 4088) at.x x, sides at.x);
      x_least = omega (arith, range-low (pos 0) (pos 4088) at.x x, sides at.x);
      y_most = omega (arith, range-low (pos 0) (pos 4088) at.y y, range-high (pos 0) (pos 4088) at.y y, sides at.y);
      y_least = omega (arith, range-low (pos 0) (pos 4088) at.y y, sides at.y);
    }

is_inside : (at : Point) → Inside at → (within at.x && within at.y) ≡ true
is_inside at h =
    both (range_is (pos 0) (pos 4088) at.x (omega (arith, h.x_least)) (omega (arith, h.x_most, h.x_least)))
    (range_is (pos 0) (pos 4088) at.y (omega (arith, h.y_least)) (omega (arith, h.y_most, h.y_least)))

part_small : (z : ℤ) → in_range (negsuc 2047) (pos 2047) z ≡ true → (above z ≤ 2048) × (below z ≤ 2048)
part_small z e =
    let l = range-low (negsuc 2047) (pos 2047) z e in
    let h = range-high (negsuc 2047) (pos 2047) z e in
    (omega (arith, l, h, sides z), omega (arith, l, h, sides z))

-- a seed in range can be searched around
pub seed_small : (seed : MotionVector) → vector_in_range seed ≡ true → Within 2048 seed
seed_small seed e =
    let r = in_range (negsuc 2047) (pos 2047) in
    let x = part_small seed.x (and_left (r seed.x) (r seed.y) e) in
    let y = part_small seed.y (and_right (r seed.x) (r seed.y) e) in
    record { x_above = x.0; x_below = x.1; y_above = y.0; y_below = y.1 }

-- ---- each test

module _ (bytes : ℕ) (t : Target) where
  abbrev corner_reply : Reply
  corner_reply = unless (within t.corner.x && within t.corner.y) Place (Ok tt)

  placed_is : placed_reply bytes t ≡ Ok tt → (reference_reply t.geometry bytes ≡ Ok tt) × Inside t.corner
  unfolding placed_reply
  placed_is e = (
    first_done (reference_reply t.geometry bytes) corner_reply e,
    inside_is t.corner
        (unless-done (within t.corner.x && within t.corner.y) Place (Ok tt) (then_done (reference_reply t.geometry bytes) corner_reply e)),
  )

  placed-done : reference_reply t.geometry bytes ≡ Ok tt → Inside t.corner → placed_reply bytes t ≡ Ok tt
  unfolding placed_reply
  placed-done e h = both_done e (passed (within t.corner.x && within t.corner.y) Place (is_inside t.corner h) refl)

module _ (side area : ℕ) (t : Target) where
  square_is : square_reply side area t ≡ Ok tt → (area ≡ side * side) × (t.side ≡ side)
  unfolding square_reply
  square_is e =
      let last = unless (eqb t.side side) Choice (Ok tt) in (
        length_is area side side (first_done (length_reply area side side) last e),
        eqb-true t.side side (unless-done (eqb t.side side) Choice (Ok tt) (then_done (length_reply area side side) last e)),
      )

  square_done : area ≡ side * side → t.side ≡ side → square_reply side area t ≡ Ok tt
  unfolding square_reply
  square_done e f = both_done (length-done area side side e) (passed (eqb t.side side) Choice (eq-eqb t.side side f) refl)

window_is : (w : ℕ) → window_reply w ≡ Ok tt → w ≤ 1023
unfolding window_reply
window_is w e = leb-true w 1023 (unless-done (leb w 1023) Fcode (Ok tt) e)

window-done : (w : ℕ) → w ≤ 1023 → window_reply w ≡ Ok tt
unfolding window_reply
window-done w h = passed (leb w 1023) Fcode (le-leb w 1023 h) refl

seed_is : (seed : MotionVector) → seed_size_reply seed ≡ Ok tt → vector_in_range seed ≡ true
unfolding seed_size_reply
seed_is seed e = unless-done (vector_in_range seed) Seed (Ok tt) e

seed_done : (seed : MotionVector) → vector_in_range seed ≡ true → seed_size_reply seed ≡ Ok tt
unfolding seed_size_reply
seed_done seed e = passed (vector_in_range seed) Seed e refl

-- ---- searches

module _ (source samples : List ℕ) (t : Target) where
  -- what holds of a target whose side is known
  ready_is : (side : ℕ) → is_side side ≡ true → placed_reply (length samples) t ≡ Ok tt → square_reply side (length source) t ≡ Ok tt → Ready source samples t
  ready_is side h p q =
      let place = placed_is (length samples) t p in
      let square = square_is side (length source) t q in
      record {
        is_side_is = ap is_side square.1 ∙ h;
        source_fits = square.0 ∙ sym (ap (λ (n : ℕ). n * n) square.1);
        reference = place.0;
        inside = place.1;
      }

  square_ready : (side : ℕ) → Ready source samples t → t.side ≡ side → square_reply side (length source) t ≡ Ok tt
  square_ready side r e = square_done side (length source) t (r.source_fits ∙ ap (λ (n : ℕ). n * n) e) e

  module _ (w : ℕ) where
    -- one vector
    pub sixteen_is : sixteen_reply (length source) (length samples) t w ≡ Ok tt → Ready source samples t × (t.side ≡ 16) × (w ≤ 1023)
    unfolding sixteen_reply
    sixteen_is e =
        let place = placed_reply (length samples) t in
        let square = square_reply 16 (length source) t in
        let k = then_done (window_reply w) (and_then place square) e in
        let last = then_done place square k in (
          ready_is 16 refl (first_done place square k) last,
          (square_is 16 (length source) t last).1,
          window_is w (first_done (window_reply w) (and_then place square) e),
        )

    pub sixteen_done : Ready source samples t → t.side ≡ 16 → w ≤ 1023 → sixteen_reply (length source) (length samples) t w ≡ Ok tt
    unfolding sixteen_reply
    sixteen_done r e h =
        both_done (window-done w h) (both_done (placed-done (length samples) t r.reference r.inside) (square_ready 16 r e))

    pub sixteen_won_lem : (fcode : ℕ) → Ready source samples t → t.side ≡ 16 → w ≤ 1023
        → sixteen_won source samples t fcode w ≡ Ok (sixteen_best (block_of source samples t) fcode w)
    unfolding sixteen_won
    sixteen_won_lem fcode r e h = ap (λ (x : Reply). answer x (sixteen_best (block_of source samples t) fcode w)) (sixteen_done r e h)

    -- one of four
    module _ (seed : MotionVector) where
      pub eight_is : eight_reply (length source) (length samples) t w seed ≡ Ok tt → Ready source samples t × (t.side ≡ 8) × Within 2048 seed
      unfolding eight_reply
      eight_is e =
          let place = placed_reply (length samples) t in
          let square = square_reply 8 (length source) t in
          let second = and_then (seed_size_reply seed) square in
          let k = then_done (window_reply w) (and_then place second) e in
          let l = then_done place second k in
          let last = then_done (seed_size_reply seed) square l in (
            ready_is 8 refl (first_done place second k) last,
            (square_is 8 (length source) t last).1,
            seed_small seed (seed_is seed (first_done (seed_size_reply seed) square l)),
          )

      pub eight-done : Ready source samples t → t.side ≡ 8 → w ≤ 1023 → vector_in_range seed ≡ true
          → eight_reply (length source) (length samples) t w seed ≡ Ok tt
      unfolding eight_reply
      eight-done r e h v =
          both_done (window-done w h)
          (both_done (placed-done (length samples) t r.reference r.inside) (both_done (seed_done seed v) (square_ready 8 r e)))

      pub eight-won : (m : BVopSampleMode) → Ready source samples t → t.side ≡ 8 → w ≤ 1023 → vector_in_range seed ≡ true
          → eight_won source samples t m w seed ≡ Ok (eight_best (block_of source samples t) m w seed)
      unfolding eight_won
      eight-won m r e h v = ap (λ (x : Reply). answer x (eight_best (block_of source samples t) m w seed)) (eight-done r e h v)

-- ---- sums

module _ (area area' side : ℕ) where
  pub sum_is : sum_reply area area' side ≡ Ok tt → (is_side side ≡ true) × (area ≡ side * side) × (area' ≡ side * side)
  unfolding sum_reply side_reply
  sum_is e =
      let a = length_reply area side side in
      let b = length_reply area' side side in
      let k = then_done (side_reply side side) (and_then a b) e in (
        and_left (is_side side) (is_side side) (unless-done (is_side side && is_side side) Choice (Ok tt) (first_done (side_reply side side) (and_then a b) e)),
        length_is area side side (first_done a b k),
        length_is area' side side (then_done a b k),
      )

  pub sum_done : is_side side ≡ true → area ≡ side * side → area' ≡ side * side → sum_reply area area' side ≡ Ok tt
  unfolding sum_reply side_reply
  sum_done h e f =
      both_done (passed (is_side side && is_side side) Choice (both h h) refl)
      (both_done (length-done area side side e) (length-done area' side side f))

-- the sum of two blocks of a side of 8 or 16
pub block_sum_is : (source predicted : List ℕ) (side : ℕ) → is_side side ≡ true → length source ≡ side * side → length predicted ≡ side * side
    → sum_of source predicted side ≡ differences side (row_by_row side source) (row_by_row side predicted)
unfolding sum_of
block_sum_is source predicted side h e f =
    ap (λ (r : Reply). done r (differences side (row_by_row side source) (row_by_row side predicted)) 0) (sum_done (length source) (length predicted) side h e f)

-- what the sum of two blocks cites
pub ruleset block_sums = (sum_is, listed_sum, listed_fits, source_fits)
