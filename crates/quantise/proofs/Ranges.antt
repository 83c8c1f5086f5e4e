-- A block has 64 levels, each in -2,047..2,047, whatever the coefficients. Assumes nothing.
use Prim.Native.Nat.{ℕ, ◌<◌}
use native.Mathlib.Omega.{arith}
use mathlib.Core.Bool.{Bool, true, false, cond}
use mathlib.Core.List.{List}
use mathlib.Core.Path.{◌≡◌, ap, ◌∙◌}
use lib.IntN.{ℤ, pos, negsuc}
use lib.ListN.{length, get_or}
use Rattle.basis.proofs.Lists.{length-tabulate, get_or-tabulate}
use Rattle.refusal.specs.Test.{in_range}
use Rattle.refusal.proofs.Tests.{cut_in}
use Rattle.quantise.specs.Block.{level_at, block_levels}
use Rattle.basis.specs.Signed.{signed}
use Rattle.quantise.specs.Level.{quotient_by_quantiser, level_by_quantiser, quotient_by_weight, level_by_weight}

level_in : (first : Bool) (w q : ℕ) (f : ℤ) → in_range (negsuc 2046) (pos 2047) (cond first (level_by_weight w q f) (level_by_quantiser q f)) ≡ true
unfolding level_by_quantiser level_by_weight
level_in true w q f = cut_in (negsuc 2046) (pos 2047) (signed f (quotient_by_weight w q f)) (omega arith)
level_in false w q f = cut_in (negsuc 2046) (pos 2047) (signed f (quotient_by_quantiser q f)) (omega arith)

module _ (first : Bool) (q : ℕ) (weights : List ℕ) (fs : List ℤ) where
  pub levels-length : length (block_levels first q weights fs) ≡ 64
  unfolding block_levels
  levels-length = length-tabulate 64 (level_at first q weights fs)

  pub levels_at_lem : (i : ℕ) → i < 64 → in_range (negsuc 2046) (pos 2047) (get_or (block_levels first q weights fs) i (pos 0)) ≡ true
  unfolding block_levels
  levels_at_lem i h =
      ap (in_range (negsuc 2046) (pos 2047)) (get_or-tabulate 64 (level_at first q weights fs) i (pos 0) h)
      ∙ level_in first (get_or weights i 0) q (get_or fs i (pos 0))
