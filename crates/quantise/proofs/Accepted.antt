-- What holds of a call that is not turned back, and back. Assumes nothing.
use Prim.Native.Nat.{ℕ, ◌≤◌, ◌<◌}
use native.Mathlib.Omega.{arith}
use mathlib.Core.Bool.{Bool, true, false, not, ◌&&◌, ◌||◌}
use mathlib.Core.List.{List}
use mathlib.Core.Path.{◌≡◌, refl, sym, ap, ◌∙◌}
use lib.Dec.{eqb}
use lib.IntN.{ℤ, pos, negsuc, nat_abs}
use lib.ListN.{length, get_or}
use borrow.Author.Tests.{eqb-true, eq-eqb}
use Rattle.basis.proofs.Case.{both}
use Rattle.refusal.specs.declared.Refusal.TheVariants.{Quantiser, Weight, Length, Range}
use Rattle.std.specs.Prelude.{Ok}
use Rattle.refusal.specs.Reply.{unless}
use Rattle.refusal.specs.Test.{between, in_range, all_in_range}
use Rattle.refusal.proofs.Every.{every_at}
use Rattle.refusal.proofs.Replies.{first_done, then_done, unless-done, after, passed, both_done}
use Rattle.refusal.proofs.Tests.{and_left, and_right, between-low, between-high}
use Rattle.quantise.specs.Block.{no_zero, weight_reply, quantise_reply, inverse_reply}
use Rattle.quantise.specs.Told.{BlockNeeds, InverseNeeds}
use Rattle.refusal.proofs.Tests.{size_in}

not_zero : (w : ℕ) → not (eqb w 0) ≡ true → 1 ≤ w
not_zero w e = omega (arith, some)
  where
    never : true ≡ false → ⊥
    never z = let y : ◌≡◌ {A = ℕ} 0 1 = cc in omega arith

    some : w ≡ 0 → ⊥
    some z = never (sym e ∙ ap not (eq-eqb w 0 z))

pub record Sound (fs : List ℤ) (q : ℕ) (weights : List ℕ) (n : ℕ) : Type 0 where
  pub low : 1 ≤ q
  pub high : q ≤ 31
  pub long : length fs ≡ 64
  pub weights_long : length weights ≡ 64
  pub area_long : n ≡ 64
  pub small : (i : ℕ) → i < 64 → nat_abs (get_or fs i (pos 0)) ≤ 2048
  pub ranged : (i : ℕ) → i < 64 → in_range (negsuc 2047) (pos 2047) (get_or fs i (pos 0)) ≡ true

-- quantiser and weights that are taken
module _ (q : ℕ) (first : Bool) (weights : List ℕ) (e : weight_reply q first weights ≡ Ok tt) where
  quantiser_in : between 1 31 q ≡ true
  unfolding weight_reply
  quantiser_in = unless-done (between 1 31 q) Quantiser (unless (not first || no_zero weights) Weight (Ok tt)) e

  weights_serve : (not first || no_zero weights) ≡ true
  unfolding weight_reply
  weights_serve = unless-done (not first || no_zero weights) Weight (Ok tt) (after (between 1 31 q) Quantiser (unless (not first || no_zero weights) Weight (Ok tt)) e)

  pub quantiser_low : 1 ≤ q
  quantiser_low = between-low 1 31 q quantiser_in

  pub quantiser_high : q ≤ 31
  quantiser_high = between-high 1 31 q quantiser_in

module _ (fs : List ℤ) (q : ℕ) (first : Bool) (weights : List ℕ) (n : ℕ) (e : quantise_reply fs q first weights n ≡ Ok tt) where
  -- the tests that were passed, one after the other
  abbrev long_tests : Bool
  long_tests = eqb (length fs) 64 && (eqb (length weights) 64 && eqb n 64)

  weighed : weight_reply q first weights ≡ Ok tt
  unfolding quantise_reply
  weighed = first_done (weight_reply q first weights) _ e

  past_weight : unless long_tests Length (unless (all_in_range (negsuc 2047) (pos 2047) fs) Range (Ok tt)) ≡ Ok tt
  unfolding quantise_reply
  past_weight = then_done (weight_reply q first weights) _ e

  sizes : long_tests ≡ true
  sizes = unless-done long_tests Length _ past_weight

  pub sound : Sound fs q weights n
  sound =
      let long : length fs ≡ 64 = eqb-true _ 64 (and_left (eqb (length fs) 64) _ sizes) in
      let areas = and_right (eqb (length fs) 64) _ sizes in
      let range = unless-done (all_in_range (negsuc 2047) (pos 2047) fs) Range (Ok tt) (after long_tests Length _ past_weight) in
      let ranged : (i : ℕ) → i < 64 → in_range (negsuc 2047) (pos 2047) (get_or fs i (pos 0)) ≡ true =
      λ i h. every_at (in_range (negsuc 2047) (pos 2047)) fs i (pos 0) range (omega arith) in
      record {
        low = quantiser_low q first weights weighed;
        high = quantiser_high q first weights weighed;
        long = long;
        weights_long = eqb-true _ 64 (and_left (eqb (length weights) 64) _ areas);
        area_long = eqb-true _ 64 (and_right (eqb (length weights) 64) _ areas);
        small = λ i h. size_in 2047 2047 (get_or fs i (pos 0)) (ranged i h) (omega arith);
        ranged = ranged;
      }

  pub weight_some : first ≡ true → (i : ℕ) → i < 64 → 1 ≤ get_or weights i 0
  weight_some t i h =
      let serve = sym (ap (λ (b : Bool). not b || no_zero weights) t) ∙ weights_serve q first weights weighed in
      not_zero _ (every_at (λ (w : ℕ). not (eqb w 0)) weights i 0 serve (omega (arith, sound.weights_long)))

-- 64 coefficients in range are not turned back where quantiser and weights are not
pub quantise_ready : (fs : List ℤ) (q : ℕ) (first : Bool) (weights : List ℕ) → weight_reply q first weights ≡ Ok tt
    → length fs ≡ 64 → length weights ≡ 64 → all_in_range (negsuc 2047) (pos 2047) fs ≡ true → quantise_reply fs q first weights 64 ≡ Ok tt
unfolding quantise_reply
quantise_ready fs q first weights w long weights_long small =
    both_done w
    (passed (eqb (length fs) 64 && (eqb (length weights) 64 && eqb 64 64)) Length
    (both (eq-eqb _ 64 long) (both (eq-eqb _ 64 weights_long) refl))
    (passed (all_in_range (negsuc 2047) (pos 2047) fs) Range small refl))

pub record SoundInverse (levels : List ℤ) (q n : ℕ) : Type 0 where
  pub low : 1 ≤ q
  pub high : q ≤ 31
  pub long : length levels ≡ 64
  pub area_long : n ≡ 64
  pub small : (i : ℕ) → i < 64 → nat_abs (get_or levels i (pos 0)) ≤ 2047

pub sound_inverse : (levels : List ℤ) (q n : ℕ) → inverse_reply levels q n ≡ Ok tt → SoundInverse levels q n
unfolding inverse_reply
sound_inverse levels q n e =
    let scale = unless-done (between 1 31 q) Quantiser _ e in
    let past = after (between 1 31 q) Quantiser _ e in
    let sizes = unless-done (eqb (length levels) 64 && eqb n 64) Length _ past in
    let range = unless-done (all_in_range (negsuc 2046) (pos 2047) levels) Range (Ok tt) (after (eqb (length levels) 64 && eqb n 64) Length _ past) in
    let long : length levels ≡ 64 = eqb-true _ 64 (and_left (eqb (length levels) 64) (eqb n 64) sizes) in
    record {
      low = between-low 1 31 q scale;
      high = between-high 1 31 q scale;
      long = long;
      area_long = eqb-true _ 64 (and_right (eqb (length levels) 64) (eqb n 64) sizes);
      small = λ i h. size_in 2046 2047 (get_or levels i (pos 0)) (every_at (in_range (negsuc 2046) (pos 2047)) levels i (pos 0) range (omega arith)) (omega arith);
    }

-- what the private functions need, as contracts say it
pub block_needs : (fs : List ℤ) (q : ℕ) (first : Bool) (weights : List ℕ) (n : ℕ) → quantise_reply fs q first weights n ≡ Ok tt → BlockNeeds fs q first weights n
block_needs fs q first weights n e =
    let s = sound fs q first weights n e in
    record {
      quantiser_some = s.low;
      quantiser_most = s.high;
      long = s.long;
      weights_long = s.weights_long;
      area_long = s.area_long;
      small = s.small;
      weight_some = weight_some fs q first weights n e;
    }

pub inverse_needs : (levels : List ℤ) (q n : ℕ) → inverse_reply levels q n ≡ Ok tt → InverseNeeds levels q n
inverse_needs levels q n e =
    let s = sound_inverse levels q n e in
    record { quantiser_some = s.low; quantiser_most = s.high; long = s.long; area_long = s.area_long; small = s.small }
