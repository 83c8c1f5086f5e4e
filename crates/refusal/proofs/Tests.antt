-- What a test that held tells. Assumes nothing.
use Prim.Native.Nat.{ℕ, suc, ◌+◌, ◌≤◌, ◌<◌, ◌^◌}
use native.Mathlib.Omega.{arith}
use mathlib.Core.Bool.{Bool, true, false, ◌&&◌, ◌||◌}
use mathlib.Core.Path.{◌≡◌, refl, ap, ◌∙◌}
use lib.Dec.{leb}
use lib.IntN.{ℤ, pos, negsuc, nat_abs}
use lib.Signed.{le_z, mag}
use mir.Syntax.{w32}
use mir.Val.{to_z, of_z}
use borrow.Author.Tests.{leb-true}
use Rattle.basis.specs.Cut.{cut_to}
use Rattle.basis.specs.Parts.{above, below}
use Rattle.basis.proofs.Case.{both}
use Rattle.basis.proofs.Cut.{cut_least, cut_most}
use Rattle.basis.proofs.Parts.{sides, size_parts}
use Rattle.basis.proofs.Signed.{le_true, le_is, of_bits_lem}
use Rattle.refusal.specs.Test.{between, in_range}

pub and_left : (a b : Bool) → (a && b) ≡ true → a ≡ true
and_left true b e = refl
and_left false b e = e

pub and_right : (a b : Bool) → (a && b) ≡ true → b ≡ true
and_right true b e = e
and_right false true e = refl
and_right false false e = e

pub or_elim : (a b : Bool) (P : Type 0) → (a ≡ true → P) → (b ≡ true → P) → (a || b) ≡ true → P
or_elim true b P f g e = f refl
or_elim false b P f g e = g e

pub between-low : (low high n : ℕ) → between low high n ≡ true → low ≤ n
between-low low high n e = leb-true low n (and_left (leb low n) (leb n high) e)

pub between-high : (low high n : ℕ) → between low high n ≡ true → n ≤ high
between-high low high n e = leb-true n high (and_right (leb low n) (leb n high) e)

pub range-low : (low high z : ℤ) → in_range low high z ≡ true → above low + below z ≤ above z + below low
range-low low high z e = le_true low z (and_left (le_z low z) (le_z z high) e)

pub range-high : (low high z : ℤ) → in_range low high z ≡ true → above z + below high ≤ above high + below z
range-high low high z e = le_true z high (and_right (le_z low z) (le_z z high) e)

-- and back
pub range_is : (low high z : ℤ) → above low + below z ≤ above z + below low → above z + below high ≤ above high + below z → in_range low high z ≡ true
range_is low high z h k = both (le_is low z h) (le_is z high k)

-- how large a number of a range is
pub size_in : (a b : ℕ) (z : ℤ) → in_range (negsuc a) (pos b) z ≡ true → b ≤ suc a → nat_abs z ≤ suc a
size_in a b z e h = omega (arith, size_parts z, range-low (negsuc a) (pos b) z e, range-high (negsuc a) (pos b) z e, sides z)

-- of a signed field, which is read back from its bits
pub range_read : (low high z : ℤ) → mag z < 2 ^ 31 → in_range low high z ≡ true → in_range low high (to_z w32 (of_z w32 z)) ≡ true
range_read low high z h e = ap (in_range low high) (of_bits_lem z h) ∙ e

-- a number cut to a range lies in it, where its ends are in order
pub cut_in : (low high z : ℤ) → above low + below high ≤ above high + below low → in_range low high (cut_to low high z) ≡ true
cut_in low high z h = both (cut_least low high z h) (cut_most low high z h)
