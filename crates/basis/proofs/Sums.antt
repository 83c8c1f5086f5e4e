-- Laws of sums by count. Assumes nothing.
use mathlib.Core.Path.{◌≡◌, refl, sym, ap, ◌∙◌}
use Prim.Native.Nat.{ℕ, zero, suc, ◌+◌, ◌*◌, ◌≤◌, ◌<◌}
use native.Mathlib.Numerals.{add-one}
use native.Mathlib.Omega.{arith}
use Rattle.basis.specs.Sums.{sum_to}

-- one more term
pub sum_to_more : (n : ℕ) (f : ℕ → ℕ) → sum_to (n + 1) f ≡ sum_to n f + f n
unfolding sum_to
sum_to_more n f = rw add-one

-- sums of equal terms are equal
pub sum_to_cong : (n : ℕ) (f g : ℕ → ℕ) → ((i : ℕ) → i < n → f i ≡ g i) → sum_to n f ≡ sum_to n g
unfolding sum_to
sum_to_cong zero f g h = refl
sum_to_cong (suc n) f g h = rw (sum_to_cong n f g (λ i p. h i (omega arith)), h n (omega arith))

-- a sum whose terms are at most m is at most m for each term
pub sum_to-le : (m n : ℕ) (f : ℕ → ℕ) → ((i : ℕ) → i < n → f i ≤ m) → sum_to n f ≤ m * n
unfolding sum_to
sum_to-le m zero f h = omega arith
sum_to-le m (suc n) f h = omega (arith, sum_to-le m n f (λ i p. h i (omega arith)), h n (omega arith), next m n)
  where
    next : (m n : ℕ) → m * suc n ≡ m * n + m
    next m n = omega arith

-- two terms a turn
pub sum_to_pairs : (n : ℕ) (f : ℕ → ℕ) → sum_to n (λ k. f (2 * k) + f (2 * k + 1)) ≡ sum_to (2 * n) f
unfolding sum_to
sum_to_pairs zero f = refl
sum_to_pairs (suc n) f = ap (λ (s : ℕ). s + (f (2 * n) + f (2 * n + 1))) (sum_to_pairs n f) ∙ sym two_more
  where
    two_more : sum_to (2 * suc n) f ≡ sum_to (2 * n) f + (f (2 * n) + f (2 * n + 1))
    two_more = ap (λ (m : ℕ). sum_to m f) count ∙ sum_to_more (2 * n + 1) f ∙ omega (arith, sum_to_more (2 * n) f)
      where
        count : 2 * suc n ≡ 2 * n + 1 + 1
        count = omega arith

-- a loop's sum after i of n turns, each of which adds at most m
pub record Summed (m n : ℕ) (f : ℕ → ℕ) (i sum : ℕ) : Type 0 where
  pub turns : i ≤ n
  pub small : sum ≤ m * i
  pub same : sum ≡ sum_to i f

module _ (m n : ℕ) (f : ℕ → ℕ) where
  pub summed_none : Summed m n f 0 0
  unfolding sum_to
  summed_none = record { turns = omega arith; small = omega arith; same = refl }

  pub summed_more : {i sum x : ℕ} → Summed m n f i sum → i < n → x ≡ f i → x ≤ m → Summed m n f (i + 1) (sum + x)
  summed_more {i} {sum} {x} s h e b =
      record {
        turns = omega arith;
        small = omega (arith, next m i);
        same = omega (arith, sum_to_more i f);
      }
    where
      next : (m i : ℕ) → m * (i + 1) ≡ m * i + m
      next m i = omega arith

  pub summed_end : {i sum : ℕ} → Summed m n f i sum → n ≤ i → (sum ≡ sum_to n f) × (sum ≤ m * n)
  summed_end {i} {sum} s h =
      let e : i ≡ n = omega arith in
      (rw e at s.same, rw e at s.small)
