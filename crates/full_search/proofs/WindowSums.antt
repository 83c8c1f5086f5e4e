-- Sums against a block in a window: when there is one, and that it is summed where it stands. Assumes nothing.
use Prim.Native.Nat.{ℕ, ◌+◌, ◌-◌, ◌*◌, ◌≤◌}
use native.Mathlib.Omega.{arith}
use mathlib.Core.Bool.{true, ◌&&◌}
use mathlib.Core.List.{List}
use mathlib.Core.Path.{◌≡◌, refl, ap}
use borrow.Author.Tests.{ltb-true, lt-ltb}
use lib.Dec.{ltb}
use lib.ListN.{length}
use Rattle.basis.proofs.Case.{both}
use Rattle.refusal.specs.declared.Refusal.TheVariants.{ReferenceBytes, Choice}
use Rattle.refusal.specs.Reply.{Reply}
use Rattle.std.specs.Prelude.{Ok}
use Rattle.refusal.specs.Reply.{and_then, done}
use Rattle.refusal.proofs.Replies.{first_done, then_done, both_done, passed, unless-done}
use Rattle.refusal.proofs.Tests.{and_left}
use Rattle.plane.specs.Reference.{length_reply, is_side, side_reply, reference_bytes_reply}
use Rattle.plane.proofs.Ready.{length_is, length-done}
use Rattle.full_search.specs.Block.{differences, row_by_row}
use Rattle.full_search.specs.ToldPatch.{lines_from, lines_sum}
use Rattle.full_search.specs.Window.{square_of, window_sum_reply, window_at, window_sum_of}
use Rattle.full_search.proofs.Sides.{side_least, source_fits}

-- where the block's last sample stands, from its first on
abbrev last_of : ℕ → ℕ → ℕ
last_of stride side = (side - 1) * stride + (side - 1)

module _ (area bytes at stride side : ℕ) where
  pub window_is : window_sum_reply area bytes at stride side ≡ Ok tt
      → (is_side side ≡ true) × (area ≡ side * side) × (at + (side - 1) * stride + side ≤ bytes)
  unfolding window_sum_reply side_reply reference_bytes_reply
  window_is e =
      let a = length_reply area side side in
      let b = reference_bytes_reply (square_of side stride) (bytes - at) in
      let k = then_done (side_reply side side) (and_then a b) e in
      let h = unless-done (is_side side && is_side side) Choice (Ok tt) (first_done (side_reply side side) (and_then a b) e) in
      let s = and_left (is_side side) (is_side side) h in
      let l = unless-done (ltb (last_of stride side) (bytes - at)) ReferenceBytes (Ok tt) (then_done a b k) in (
        s,
        length_is area side side (first_done a b k),
        omega (arith, side_least side s, ltb-true (last_of stride side) (bytes - at) l),
      )

  pub window-done : is_side side ≡ true → area ≡ side * side → at + (side - 1) * stride + side ≤ bytes → window_sum_reply area bytes at stride side ≡ Ok tt
  unfolding window_sum_reply side_reply reference_bytes_reply
  window-done h e f =
      both_done (passed (is_side side && is_side side) Choice (both h h) refl)
      (both_done (length-done area side side e)
      (passed (ltb (last_of stride side) (bytes - at)) ReferenceBytes
      (lt-ltb (last_of stride side) (bytes - at) (omega (arith, side_least side h))) refl))

-- the block is summed where it stands
pub standing_sum : (side : ℕ) (source window : List ℕ) (at stride : ℕ)
    → lines_sum side source side window (lines_from at stride) ≡ differences side (row_by_row side source) (window_at window at stride)
unfolding lines_sum differences
standing_sum side source window at stride = refl

-- the sum of a block that is there
pub window_sum_is : (source window : List ℕ) (at stride side : ℕ) → is_side side ≡ true → length source ≡ side * side
    → at + (side - 1) * stride + side ≤ length window
    → window_sum_of source window at stride side ≡ differences side (row_by_row side source) (window_at window at stride)
unfolding window_sum_of
window_sum_is source window at stride side h e f =
    ap (λ (r : Reply). done r (differences side (row_by_row side source) (window_at window at stride)) 0)
    (window-done (length source) (length window) at stride side h e f)

-- what the sum against a block in a window cites
pub ruleset window_sums = (window_is, standing_sum, source_fits)
