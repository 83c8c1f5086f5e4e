-- The ends of a range, as the code has them from what `range` gives. Assumes nothing.
use Prim.Native.Nat.{ℕ, ◌-◌, ◌≤◌, ◌<◌, ◌^◌}
use native.Mathlib.Omega.{arith}
use mathlib.Core.Path.{◌≡◌, sym, ap, ap₂, ◌∙◌, subst}
use lib.IntN.{ℤ, pos, neg_ℤ, ◌-ℤ◌}
use mir.Syntax.{w32}
use mir.Val.{SFits, to_z, of_z}
use mir.ValLaws.{to_z-of_z, to_z_pos}
use Rattle.basis.proofs.Parts.{difference_high}
use Rattle.basis.proofs.Signed.{negative_fits, negative_read}
use Rattle.search.specs.Range.{range, low, high}

module _ (fcode n : ℕ) (e : n ≡ range fcode) (least : 32 ≤ n) (most : n ≤ 2048) where
  small : n < 2 ^ 31
  small = omega arith

  pub low_fits : SFits w32 (pos 0 -ℤ to_z w32 n)
  low_fits = negative_fits n small

  pub low_read : to_z w32 (of_z w32 (pos 0 -ℤ to_z w32 n)) ≡ low fcode
  unfolding low
  low_read = negative_read n small ∙ ap (λ (k : ℕ). neg_ℤ (pos k)) e

  less_one : to_z w32 n -ℤ pos 1 ≡ pos (n - 1)
  less_one = ap (λ (z : ℤ). z -ℤ pos 1) (to_z_pos w32 n small) ∙ difference_high n 1 (omega arith)

  high-kept : SFits w32 (pos (n - 1))
  high-kept = record { sfits = omega arith }

  pub high_fits : SFits w32 (to_z w32 n -ℤ pos 1)
  high_fits = subst (SFits w32) (sym less_one) high-kept

  pub high_read : to_z w32 (of_z w32 (to_z w32 n -ℤ pos 1)) ≡ high fcode
  unfolding high
  high_read = ap (λ (z : ℤ). to_z w32 (of_z w32 z)) less_one ∙ to_z-of_z w32 (pos (n - 1)) high-kept ∙ ap (λ (k : ℕ). pos (k - 1)) e

  -- what f makes of both ends and a number, as the code has them
  pub between_ends : {A : Type 0} (f : ℤ → ℤ → ℤ → A) (z : ℤ) {v : ℤ} {r : A} → v ≡ z
      → r ≡ f (to_z w32 (of_z w32 (pos 0 -ℤ to_z w32 n))) (to_z w32 (of_z w32 (to_z w32 n -ℤ pos 1))) v → r ≡ f (low fcode) (high fcode) z
  between_ends f z {v} k g = g ∙ ap₂ (λ (l h : ℤ). f l h v) low_read high_read ∙ ap (f (low fcode) (high fcode)) k
