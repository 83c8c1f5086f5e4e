-- A residual of 64 small numbers is not turned back. Assumes nothing.
use Prim.Native.Nat.{ℕ, ◌<◌}
use mathlib.Core.Bool.{true, ◌&&◌}
use mathlib.Core.List.{List}
use mathlib.Core.Path.{◌≡◌, refl}
use borrow.Author.Tests.{eq-eqb}
use lib.Dec.{eqb}
use lib.IntN.{ℤ, pos, negsuc}
use lib.ListN.{length, get_or}
use Rattle.basis.proofs.Case.{both}
use Rattle.refusal.specs.declared.Refusal.TheVariants.{Length, Range}
use Rattle.std.specs.Prelude.{Ok}
use Rattle.refusal.specs.Test.{in_range, all_in_range}
use Rattle.refusal.proofs.Every.{all_in_range_lem}
use Rattle.refusal.proofs.Replies.{passed, both_done}
use Rattle.fdct.specs.Reply.{dct_reply}

pub dct_ready : (r : List ℤ) → length r ≡ 64 → ((i : ℕ) → i < 64 → in_range (negsuc 254) (pos 255) (get_or r i (pos 0)) ≡ true) → dct_reply r 64 ≡ Ok tt
unfolding dct_reply
dct_ready r long small =
    both_done (passed (eqb (length r) 64 && eqb 64 64) Length (both (eq-eqb _ 64 long) refl) refl)
    (passed (all_in_range (negsuc 254) (pos 255) r) Range (all_in_range_lem (negsuc 254) (pos 255) 64 r long small) refl)
