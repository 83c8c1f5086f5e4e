-- Blocks of 64, and what turns a call back (rules F10 to F13, O4).
-- A weight stands at its coefficient's own place, as in the Rust.
use Rattle.std.specs.Prelude.{ℕ, Bool, cond, not, ◌&&◌, ◌||◌, List, eqb, ℤ, pos, negsuc, length, get_or, Ok}
use Rattle.basis.specs.Lists.{tabulate}
use Rattle.refusal.specs.declared.Refusal.TheVariants.{Quantiser, Weight, Length, Range}
use Rattle.refusal.specs.Reply.{Reply, unless, and_then}
use Rattle.refusal.specs.Bounds.{is_quantiser}
use Rattle.std.specs.List.{list_all}
use Rattle.refusal.specs.Test.{all_in_range}
use Rattle.quantise.specs.Level.{level_by_quantiser, level_by_weight, inverse_by_quantiser}

-- the level at place i, by the first method where `first` is true
abbrev pub level_at : Bool → ℕ → List ℕ → List ℤ → ℕ → ℤ
level_at first q weights fs i =
    cond first (level_by_weight (get_or weights i 0) q (get_or fs i (pos 0))) (level_by_quantiser q (get_or fs i (pos 0)))

unfoldable pub block_levels : Bool → ℕ → List ℕ → List ℤ → List ℤ
block_levels first q weights fs = tabulate 64 (level_at first q weights fs)

-- a method's inverse: what a level at a place stands for
abbrev pub Inverse : Type 0
Inverse = ℕ → ℤ → ℤ

-- that of the second method is the same at every place
abbrev pub second_inverse : ℕ → Inverse
second_inverse q i l = inverse_by_quantiser q l

-- what the level at place i stands for
abbrev pub inverse_at : Inverse → List ℤ → ℕ → ℤ
inverse_at inverse levels i = inverse i (get_or levels i (pos 0))

unfoldable pub block_inverse : Inverse → List ℤ → List ℤ
block_inverse inverse levels = tabulate 64 (inverse_at inverse levels)

-- the first method wants weights that are not 0
abbrev pub no_zero : List ℕ → Bool
no_zero weights = list_all (λ w. not (eqb w 0)) weights

-- 10: quantiser not 1..31. 11: first method, a zero weight
unfoldable pub weight_reply : ℕ → Bool → List ℕ → Reply
weight_reply q first weights = unless (is_quantiser q) Quantiser (unless (not first || no_zero weights) Weight (Ok tt))

-- 10, 11, 12, 13, of coefficients, the quantiser, the method, weights, and an output area of n places
unfoldable pub quantise_reply : List ℤ → ℕ → Bool → List ℕ → ℕ → Reply
quantise_reply fs q first weights n =
    and_then (weight_reply q first weights)
    (unless (eqb (length fs) 64 && (eqb (length weights) 64 && eqb n 64)) Length
    (unless (all_in_range (negsuc 2047) (pos 2047) fs) Range (Ok tt)))

-- 10, 12, 13, of levels, the quantiser, and an output area of n places
unfoldable pub inverse_reply : List ℤ → ℕ → ℕ → Reply
inverse_reply levels q n =
    unless (is_quantiser q) Quantiser
    (unless (eqb (length levels) 64 && eqb n 64) Length
    (unless (all_in_range (negsuc 2046) (pos 2047) levels) Range (Ok tt)))
