-- What the kit's `itoa` prints of a number is the number's digits. Assumes nothing.
use Prim.Native.Nat.{ℕ, suc, ◌+◌, ◌%◌, ◌^◌, ◌<◌}
use native.Mathlib.Omega.{arith}
use mathlib.Core.List.{List, [], ◌∷◌, ◌++◌}
use mathlib.Core.Path.{◌≡◌, ap, ◌∙◌}
use lib.IntN.{ℤ, pos, negsuc}
use lib.Signed.{mag}
use Rattle.std.specs.Fmt.{decimal as printed, signed_decimal}
use Rattle.std.proofs.lemmas.Fmt.{decimal_digit, decimal_step}
use Rattle.clip.specs.Decimal.{decimal, decimal_z}
use Rattle.clip.proofs.Digits.{by_digits}

pub printed_is : (n : ℕ) → n < 2 ^ 64 → printed n ≡ decimal n
printed_is n =
    by_digits (λ m l. m < 2 ^ 64 → printed m ≡ l) (λ m h b. decimal_digit m h)
    (λ m h l f b. decimal_step m h b ∙ ap (λ (x : List ℕ). x ++ ((48 + m % 10) ∷ [])) (f (omega arith)))
    n

pub signed_is : (z : ℤ) → mag z < 2 ^ 63 → signed_decimal z ≡ decimal_z z
unfolding decimal_z
signed_is (pos n) h = printed_is n (omega arith)
signed_is (negsuc n) h = ap (λ (l : List ℕ). 45 ∷ l) (printed_is (suc n) (omega arith))
