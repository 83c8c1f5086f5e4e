-- A test of a list's entries, one after the other: what is known after i of them, and what a test that held tells. Assumes nothing.
use Prim.Native.Nat.{ℕ, zero, suc, ◌+◌, ◌<◌, ◌≤◌}
use native.Mathlib.Numerals.{add-one}
use native.Mathlib.Omega.{arith}
use mathlib.Core.Bool.{Bool, true, false, ◌&&◌}
use mathlib.Core.List.{List, [], ◌∷◌}
use mathlib.Core.Path.{◌≡◌, refl, sym, ap, ◌∙◌}
use lib.IntN.{ℤ, pos}
use lib.ListN.{length, get_or, drop, drop_of_length-le}
use lib.Seq.{drop-cons}
use Rattle.basis.proofs.Case.{both}
use Rattle.std.specs.List.{list_all}
use Rattle.refusal.specs.Test.{in_range, all_in_range}
use Rattle.refusal.proofs.Tests.{and_left, and_right}

and_assoc : (a b c : Bool) → ((a && b) && c) ≡ (a && (b && c))
and_assoc true b c = refl
and_assoc false b c = refl

and_true : (a : Bool) → (a && true) ≡ a
and_true true = refl
and_true false = refl

module _ {A : Type 0} (p : A → Bool) where
  -- b is the test of one entry more
  pub every_more : (l : List A) (i : ℕ) (d : A) (a b : Bool) → i < length l → b ≡ (a && p (get_or l i d))
      → list_all p l ≡ (a && list_all p (drop i l)) → list_all p l ≡ (b && list_all p (drop (i + 1) l))
  every_more l i d a b h e w =
      w
      ∙ ap (λ (x : List A). a && list_all p x) (drop-cons l i d h)
      ∙ sym (and_assoc a (p (get_or l i d)) (list_all p (drop (suc i) l)))
      ∙ ap (λ (t : Bool). t && list_all p (drop (suc i) l)) (sym e)
      ∙ ap (λ (n : ℕ). b && list_all p (drop n l)) (sym (add-one i))

  pub every_end : (l : List A) (i : ℕ) (a : Bool) → length l ≤ i → list_all p l ≡ (a && list_all p (drop i l)) → a ≡ list_all p l
  every_end l i a h w =
      sym (w ∙ ap (λ (x : List A). a && list_all p x) (drop_of_length-le l {i = i} h) ∙ and_true a)

  pub every_at : (l : List A) (i : ℕ) (d : A) → list_all p l ≡ true → i < length l → p (get_or l i d) ≡ true
  every_at [] i d e h = absurd (omega arith)
  every_at (x ∷ l) zero d e h = and_left (p x) (list_all p l) e
  every_at (x ∷ l) (suc i) d e h = every_at l i d (and_right (p x) (list_all p l) e) (omega arith)

  -- and back
  pub every_is : (l : List A) (d : A) → ((i : ℕ) → i < length l → p (get_or l i d) ≡ true) → list_all p l ≡ true
  every_is [] d h = refl
  every_is (x ∷ l) d h = both (h 0 (omega arith)) (every_is l d (λ i b. h (suc i) (omega arith)))

-- n numbers are in a range where each is
pub all_in_range_lem : (low high : ℤ) (n : ℕ) (l : List ℤ) → length l ≡ n
    → ((i : ℕ) → i < n → in_range low high (get_or l i (pos 0)) ≡ true) → all_in_range low high l ≡ true
all_in_range_lem low high n l e h = every_is (in_range low high) l (pos 0) (λ i b. h i (omega arith))
