-- A block has 64 coefficients, each in -2,048..2,047, whatever the residual. Assumes nothing.
use Prim.Native.Nat.{ℕ, ◌/◌, ◌%◌, ◌<◌}
use native.Mathlib.Omega.{arith}
use mathlib.Core.Bool.{true}
use mathlib.Core.List.{List}
use mathlib.Core.Path.{◌≡◌, ap, ◌∙◌}
use lib.IntN.{ℤ, pos, negsuc}
use lib.Ieee.{Float}
use lib.ListN.{length, get_or}
use Rattle.basis.proofs.Lists.{length-tabulate, get_or-tabulate}
use Rattle.refusal.specs.Test.{in_range, all_in_range}
use Rattle.refusal.proofs.Every.{all_in_range_lem}
use Rattle.refusal.proofs.Tests.{cut_in}
use Rattle.fdct.specs.Block.{sample, coefficient, coefficients}
use Rattle.fdct.specs.Line.{fdct1d}
use Rattle.fdct.specs.Rounding.{rounded_size, negative, with_sign, coefficient_of}

coefficient_in : (x : Float) → in_range (negsuc 2047) (pos 2047) (coefficient_of x) ≡ true
unfolding coefficient_of
coefficient_in x = cut_in (negsuc 2047) (pos 2047) (with_sign (negative x) (rounded_size x)) (omega arith)

entry_in : (r : List ℤ) (v u : ℕ) → in_range (negsuc 2047) (pos 2047) (coefficient r v u) ≡ true
unfolding coefficient
entry_in r v u = coefficient_in (fdct1d (λ y. fdct1d (sample r y) u) v)

pub coefficients-length : (r : List ℤ) → length (coefficients r) ≡ 64
unfolding coefficients
coefficients-length r = length-tabulate 64 (λ k. coefficient r (k / 8) (k % 8))

pub coefficients_at_lem : (r : List ℤ) (i : ℕ) → i < 64 → in_range (negsuc 2047) (pos 2047) (get_or (coefficients r) i (pos 0)) ≡ true
unfolding coefficients
coefficients_at_lem r i h = ap (in_range (negsuc 2047) (pos 2047)) (get_or-tabulate 64 (λ k. coefficient r (k / 8) (k % 8)) i (pos 0) h) ∙ entry_in r (i / 8) (i % 8)

pub coefficients_in : (r : List ℤ) → all_in_range (negsuc 2047) (pos 2047) (coefficients r) ≡ true
coefficients_in r = all_in_range_lem (negsuc 2047) (pos 2047) 64 (coefficients r) (coefficients-length r) (coefficients_at_lem r)
