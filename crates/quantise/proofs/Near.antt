-- The law of `specs/Near`: every level of the second method is near its coefficient. On sizes first, and then with the sign.
-- Assumes nothing.
use Rattle.refusal.specs.Reply.{done}
use Prim.Native.Nat.{ℕ, zero, suc, ◌+◌, ◌*◌, ◌-◌, ◌/◌, ◌%◌, ◌≤◌, ◌<◌, min}
use native.Mathlib.Nat.{div-mul-le_self, lt-div-mul-add, mul-le-mul_left}
use native.Mathlib.Omega.{arith}
use mathlib.Core.Bool.{Bool, true, false, cond, true≢false}
use mathlib.Core.List.{List}
use mathlib.Core.Path.{◌≡◌, refl, sym, ap, ◌∙◌, subst}
use borrow.Author.Tests.{eqb-true, eqb-false, ne_eqb}
use lib.Dec.{eqb}
use lib.IntN.{ℤ, pos, negsuc, neg_ℤ, nat_abs, ◌-ℤ◌}
use lib.ListN.{get_or}
use Rattle.basis.specs.Parts.{above, below}
use Rattle.basis.proofs.Case.{else}
use Rattle.basis.proofs.Lists.{get_or-tabulate}
use Rattle.basis.proofs.Parts.{above-sub, below_sub, above-neg, below-neg, size_parts}
use Rattle.std.specs.Prelude.{Ok}
use Rattle.refusal.specs.Test.{in_range}
use Rattle.refusal.proofs.Tests.{range-low, range-high}
use Rattle.quantise.specs.Block.{level_at, block_levels, quantise_reply}
use Rattle.basis.specs.Cut.{cut_to}
use Rattle.basis.specs.Signed.{signed}
use Rattle.quantise.specs.Level.{quotient_by_quantiser, level_by_quantiser, inverse_size, inverse_by_quantiser}
use Rattle.quantise.specs.Near.{tolerance, Near, NearAll}
use Rattle.quantise.proofs.Accepted.{sound}
use Rattle.basis.proofs.Sizes.{size_signed}
use Rattle.refusal.proofs.Tests.{size_in}
use Rattle.quantise.proofs.Signs.{signed_cut, cut-above, cut_below}

-- a case for each outcome of a test, with the outcome
by_test : (P : ℕ → Type 0) (t : Bool) (x y : ℕ) → (t ≡ true → P x) → (t ≡ false → P y) → P (cond t x y)
by_test P true x y h k = h refl
by_test P false x y h k = k refl

-- i lies within r of a, on both sides, and is not 0
record Close (a r i : ℕ) : Type 0 where
  over : i ≤ a + r
  under : a ≤ i + r
  some : 0 < i

module _ (a q : ℕ) (small : a ≤ 2048) (low : 1 ≤ q) where
  quotient : ℕ
  quotient = (a - q / 2) / (2 * q)

  -- what division says of the quotient; it is never cut
  bounds : (quotient * (2 * q) ≤ a - q / 2) × (a - q / 2 < quotient * (2 * q) + 2 * q) × (quotient ≤ 1024)
  unfolding quotient
  bounds =
      let n = (a - q / 2) / (2 * q) in
      let h : n * (2 * q) ≤ a - q / 2 = div-mul-le_self (a - q / 2) (2 * q) in
      let two : 2 ≤ 2 * q = omega arith in
      (h, lt-div-mul-add {a = a - q / 2} {b = 2 * q} (omega arith), omega (arith, h, mul-le-mul_left n two))

  dropped_size : quotient ≡ 0 → a < 2 * q + q / 2
  unfolding quotient
  dropped_size z =
      let h : a - q / 2 < 0 * (2 * q) + 2 * q = subst (λ (n : ℕ). a - q / 2 < n * (2 * q) + 2 * q) z bounds.1 in
      omega arith

  kept_size : 0 < quotient → Close a (tolerance q) (inverse_size q quotient)
  kept_size some =
      let n = quotient in
      let b = bounds in
      let one : n * 1 ≤ n * q = mul-le-mul_left n low in
      by_test (λ (i : ℕ). Close a (tolerance q) i) (eqb (q % 2) 0) _ _
      (λ e.
      let even = eqb-true (q % 2) 0 e in
      by_test (λ (r : ℕ). Close a r (q * (2 * n + 1) - 1)) (eqb q 1) _ _
      (λ u. let h = eqb-true q 1 u in absurd (omega arith))
      (λ u. record { over = omega arith; under = omega arith; some = omega arith }))
      (λ e.
      let odd = eqb-false (q % 2) 0 e in
      by_test (λ (r : ℕ). Close a r (q * (2 * n + 1))) (eqb q 1) _ _
      (λ u. let h = eqb-true q 1 u in record { over = omega arith; under = omega arith; some = omega arith })
      (λ u. let h = eqb-false q 1 u in record { over = omega arith; under = omega arith; some = omega arith }))

-- the size of a difference, by the parts of its two sides
difference : (x y : ℤ) (d : ℕ) → above x + below y ≤ below x + above y + d → below x + above y ≤ above x + below y + d
    → nat_abs (x -ℤ y) ≤ d
difference x y d h k = omega (arith, size_parts (x -ℤ y), above-sub x y, below_sub x y)

-- a saturated size with a sign is as near as the size was: the coefficient itself is not beyond saturation
module _ (f : ℤ) (r i : ℕ) (range : in_range (negsuc 2047) (pos 2047) f ≡ true) (near : Close (nat_abs f) r i) where
  signed_near : nat_abs (cut_to (negsuc 2047) (pos 2047) (signed f i) -ℤ f) ≤ r
  signed_near = by f refl
    where
      by : (g : ℤ) → f ≡ g → nat_abs (cut_to (negsuc 2047) (pos 2047) (signed g i) -ℤ g) ≤ r
      by (pos a) e =
          let most = range-high (negsuc 2047) (pos 2047) f range in
          let size : nat_abs f ≡ a = ap nat_abs e in
          let up : above f ≡ a = ap above e in
          let down : below f ≡ 0 = ap below e in
          let h = near.over in
          let k = near.under in
          subst (λ (z : ℤ). nat_abs (z -ℤ pos a) ≤ r) (sym (cut-above (negsuc 2047) i 2047 refl))
          (difference (pos (min i 2047)) (pos a) r (omega arith) (omega arith))
      by (negsuc a) e =
          let most = range-low (negsuc 2047) (pos 2047) f range in
          let size : nat_abs f ≡ suc a = ap nat_abs e in
          let up : above f ≡ 0 = ap above e in
          let down : below f ≡ suc a = ap below e in
          let h = near.over in
          let k = near.under in
          let left = above-neg (pos (min i 2048)) in
          let right = below-neg (pos (min i 2048)) in
          subst (λ (z : ℤ). nat_abs (z -ℤ negsuc a) ≤ r) (sym (cut_below (pos 2047) i 2048 refl))
          (difference (neg_ℤ (pos (min i 2048))) (negsuc a) r (omega arith) (omega arith))

-- a sign on a size: the sign again
sign_signed : (f : ℤ) (m i : ℕ) → 0 < m → signed (signed f m) i ≡ signed f i
sign_signed (pos a) m i h = refl
sign_signed (negsuc a) zero i h = absurd (omega arith)
sign_signed (negsuc a) (suc m) i h = refl

pub near : (q : ℕ) (f : ℤ) → in_range (negsuc 2047) (pos 2047) f ≡ true → 1 ≤ q → Near q f (level_by_quantiser q f)
unfolding quotient level_by_quantiser inverse_by_quantiser
near q f range low =
    let small : nat_abs f ≤ 2048 = size_in 2047 2047 f range (omega arith) in
    let n = quotient_by_quantiser q f in
    let uncut : min n 2047 ≡ n = let b = (bounds (nat_abs f) q small low).2 in omega arith in
    let level_is : level_by_quantiser q f ≡ signed f n = signed_cut f n ∙ ap (signed f) uncut in
    let size_is : nat_abs (level_by_quantiser q f) ≡ n = ap nat_abs level_is ∙ size_signed f n in
    record {
      kept = λ some.
          let more : 0 < n = positive n (λ z. some (level_is ∙ ap (signed f) z ∙ none f)) in
          subst (λ (z : ℤ). nat_abs (z -ℤ f) ≤ tolerance q)
          (sym
          (ap (inverse_by_quantiser q) level_is
          ∙ else (eqb (nat_abs (signed f n)) 0) _ _ (ne_eqb _ 0 (λ z. absurd (clash n more (sym (size_signed f n) ∙ z))))
          ∙ ap (λ (m : ℕ). cut_to (negsuc 2047) (pos 2047) (signed (signed f n) (inverse_size q m))) (size_signed f n)
          ∙ ap (cut_to (negsuc 2047) (pos 2047)) (sign_signed f n (inverse_size q n) more)))
          (signed_near f (tolerance q) (inverse_size q n) range (kept_size (nat_abs f) q small low more));
      dropped = λ zero-level. dropped_size (nat_abs f) q small low (sym size_is ∙ ap nat_abs zero-level);
    }
  where
    positive : (k : ℕ) → (k ≡ 0 → ⊥) → 0 < k
    positive k h = omega arith

    clash : (k : ℕ) → 0 < k → k ≡ 0 → ⊥
    clash k h e = omega arith

    none : (f : ℤ) → signed f 0 ≡ pos 0
    none (pos a) = refl
    none (negsuc a) = refl

-- each level of a block that is not turned back
pub near_all : (fs : List ℤ) (q : ℕ) (weights : List ℕ) (n : ℕ) → quantise_reply fs q false weights n ≡ Ok tt
    → NearAll q fs (block_levels false q weights fs)
unfolding block_levels
near_all fs q weights n e =
    let s = sound fs q false weights n e in
    record {
      at = λ i h.
          subst (Near q (get_or fs i (pos 0))) (sym (get_or-tabulate 64 (level_at false q weights fs) i (pos 0) h))
          (near q (get_or fs i (pos 0)) (s.ranged i h) s.low);
    }

-- the same, where a test has told that the method is the second
pub near_by_method : (fs : List ℤ) (q : ℕ) (first : Bool) (weights : List ℕ) (n : ℕ) → first ≡ false → quantise_reply fs q first weights n ≡ Ok tt
    → NearAll q fs (block_levels first q weights fs)
near_by_method fs q true weights n e done = absurd (true≢false e)
near_by_method fs q false weights n e done = near_all fs q weights n done
