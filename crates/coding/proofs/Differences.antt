-- Differences of bytes, and a loop that stores 64 of them. Assumes nothing.
use Prim.Native.Nat.{ℕ, ◌+◌, ◌*◌, ◌/◌, ◌%◌, ◌≤◌, ◌<◌, ◌^◌}
use native.Mathlib.Omega.{arith}
use mathlib.Core.Bool.{Bool, true, false}
use mathlib.Core.List.{List}
use mathlib.Core.Path.{◌≡◌, refl, sym, ap, ap₂, ◌∙◌}
use borrow.Author.Tests.{eqb-true, eqb-false}
use lib.Dec.{eqb}
use lib.IntN.{ℤ, pos, negsuc, ◌-ℤ◌}
use lib.ListN.{length, get_or, set, length-set}
use lib.Seq.{get_or-set_same, get_or-set_other}
use mir.Syntax.{w32}
use mir.Val.{to_z, of_z}
use mir.ValLaws.{to_z-of_z, to_z_pos}
use Rattle.basis.specs.Lists.{tabulate}
use Rattle.basis.proofs.Lists.{filled, filled_none, filled_set, filled_end, get_or-raster}
use Rattle.basis.proofs.Parts.{above-sub, below_sub}
use Rattle.basis.proofs.Signed.{minus_fits, of_bits_lem}
use Rattle.refusal.specs.Test.{in_range}
use Rattle.refusal.proofs.Tests.{range_is}
use Rattle.plane.specs.Source.{eight_of}
use Rattle.coding.specs.Residual.{ResidualRange}

-- a byte that was widened
widened : (a : ℕ) (y : ℤ) → a < 2 ^ 8 → y ≡ pos a → to_z w32 (of_z w32 y) ≡ to_z w32 a
widened a y h e = ap (λ (z : ℤ). to_z w32 (of_z w32 z)) e ∙ of_bits_lem (pos a) (omega arith) ∙ sym (to_z_pos w32 a (omega arith))

module _ (a b : ℕ) (h : a < 2 ^ 8) (k : b < 2 ^ 8) where
  pub difference_read : (y z : ℤ) → y ≡ pos a → z ≡ pos b
      → to_z w32 (of_z w32 (to_z w32 (of_z w32 y) -ℤ to_z w32 (of_z w32 z))) ≡ pos a -ℤ pos b
  difference_read y z e f =
      ap₂ (λ (m n : ℤ). to_z w32 (of_z w32 (m -ℤ n))) (widened a y h e) (widened b z k f)
      ∙ to_z-of_z w32 (to_z w32 a -ℤ to_z w32 b) (minus_fits a b (omega arith) (omega arith))
      ∙ ap₂ ◌-ℤ◌ (to_z_pos w32 a (omega arith)) (to_z_pos w32 b (omega arith))

  pub difference_in : in_range (negsuc 254) (pos 255) (pos a -ℤ pos b) ≡ true
  difference_in =
      let p = above-sub (pos a) (pos b) in
      let n = below_sub (pos a) (pos b) in
      range_is (negsuc 254) (pos 255) (pos a -ℤ pos b) (omega arith) (omega arith)

-- after k of 64 turns
pub record ResidualSoFar (f : ℕ → ℤ) (out₀ out : List ℤ) (k : ℕ) : Type 0 where
  pub turns : k ≤ 64
  pub was : length out₀ ≡ 64
  pub long : length out ≡ 64
  pub is : out ≡ filled k f out₀
  pub small : (j : ℕ) → j < k → in_range (negsuc 254) (pos 255) (get_or out j (pos 0)) ≡ true

module _ (f : ℕ → ℤ) where
  pub stored_none : (out₀ : List ℤ) → length out₀ ≡ 64 → ResidualSoFar f out₀ out₀ 0
  stored_none out₀ e = record { turns = omega arith; was = e; long = e; is = sym (filled_none f out₀); small = λ j h. absurd (none j h) }
    where
      none : (j : ℕ) → j < 0 → ⊥
      none j h = omega arith

  pub stored_more : (out₀ out : List ℤ) (k : ℕ) (v : ℤ) → ResidualSoFar f out₀ out k → k < 64 → v ≡ f k
      → in_range (negsuc 254) (pos 255) v ≡ true → ResidualSoFar f out₀ (set out k v) (k + 1)
  stored_more out₀ out k v s h e r =
      record {
        turns = omega arith;
        was = s.was;
        long = length-set out k v ∙ s.long;
        is = filled_set k f out₀ out v s.is e (omega (arith, s.was));
        small = λ j l. at j l (eqb j k) refl;
      }
    where
      at : (j : ℕ) → j < k + 1 → (t : Bool) → eqb j k ≡ t → in_range (negsuc 254) (pos 255) (get_or (set out k v) j (pos 0)) ≡ true
      at j l true q =
          let same = eqb-true j k q in
          ap (λ (n : ℕ). in_range (negsuc 254) (pos 255) (get_or (set out k v) n (pos 0))) same
          ∙ ap (in_range (negsuc 254) (pos 255)) (get_or-set_same out k v (pos 0) (omega (arith, s.long)))
          ∙ r
      at j l false q =
          let other = eqb-false j k q in
          ap (in_range (negsuc 254) (pos 255)) (get_or-set_other out k j v (pos 0) other) ∙ s.small j (omega arith)

  pub stored_end : (out₀ out : List ℤ) (k : ℕ) → ResidualSoFar f out₀ out k → 64 ≤ k → (out ≡ tabulate 64 f) × ResidualRange 64 out
  stored_end out₀ out k s h =
      let e : length out₀ ≡ k = omega (arith, s.was, s.turns) in
      (filled_end k f out₀ out s.is e ∙ ap (λ (n : ℕ). tabulate n f) s.was, record { at = λ i l. s.small i (omega arith) })

-- place k of 8 x 8 block n, in the macroblock
pub eight_at : (l : List ℕ) (n k : ℕ) → k < 64 → get_or (eight_of l n) k 0 ≡ get_or l ((8 * (n / 2) + k / 8) * 16 + (8 * (n % 2) + k % 8)) 0
eight_at l n k h =
    ap (λ (m : ℕ). get_or (eight_of l n) m 0) (let e : k ≡ k / 8 * 8 + k % 8 = omega arith in e)
    ∙ get_or-raster 8 8 (λ i j. get_or l ((8 * (n / 2) + j) * 16 + (8 * (n % 2) + i)) 0) (k % 8) (k / 8) 0 (omega arith) (omega arith)
