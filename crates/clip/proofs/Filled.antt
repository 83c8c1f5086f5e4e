-- What a line's area holds, and that it stays one, when bytes are written after those that it holds. Assumes nothing.
use Prim.Native.Nat.{ℕ, ◌+◌, ◌-◌, ◌≤◌, min}
use native.Mathlib.Omega.{arith}
use mathlib.Core.List.{List, ◌++◌}
use mathlib.Core.Path.{◌≡◌, sym, ap, ◌∙◌}
use lib.ListN.{length, take, drop, replicate, length-take}
use lib.Seq.{drop-drop, length-take-le}
use borrow.Rule.Slice.PartMut.{put_mid}
use Rattle.std.proofs.lemmas.List.{drop-replicate}
use Rattle.std.proofs.lemmas.Slice.{take-put_mid, drop-put_mid}
use Rattle.basis.proofs.Slices.{put_length}
use Rattle.clip.specs.Text.{taken, IsText}
use Rattle.clip.specs.ToldPush.{pushes}
use Rattle.clip.specs.declared.write.Text.TheInside.{Inside}
use Rattle.clip.proofs.Texts.{room_for}

-- n bytes of s more, where s or the room has no more
module _ (t : Inside) (s y : List ℕ) (n : ℕ) (h : IsText t) (few : n ≡ min (length s) (198 - t.len)) (copied : y ≡ take n s) where
  long : length y ≡ n
  long = ap length copied ∙ length-take n s ∙ omega (arith, few)

  abbrev after : Inside
  after = record { bytes = put_mid t.len (t.len + n - t.len) t.bytes y; len = t.len + n }

  pub filled : IsText after
  filled =
      record {
        short = omega (arith, few, h.short);
        whole = put_length t.bytes y t.len (t.len + n) (omega (arith, long)) (omega (arith, few, h.short, h.whole)) ∙ h.whole;
        rest =
            drop-put_mid t.len (t.len + n - t.len) t.bytes y (t.len + n) (omega arith) (omega (arith, h.short, h.whole)) (omega (arith, long))
            ∙ sym (drop-drop n t.len t.bytes)
            ∙ ap (drop n) h.rest
            ∙ drop-replicate n (198 - t.len) 0
            ∙ ap (λ (m : ℕ). replicate m 0) (omega arith);
      }

  pub holds_more : taken after ≡ pushes (taken t) s
  holds_more =
      take-put_mid t.len (t.len + n - t.len) t.bytes y (t.len + n) (omega (arith, long)) (omega (arith, h.short, h.whole))
      ∙ ap (λ (x : List ℕ). taken t ++ x) copied
      ∙ (room_for (taken t) s (198 - t.len) n (omega (arith, h.short, h.whole, length-take-le t.len t.bytes (omega (arith, h.short, h.whole)))) few).1
