-- Laws of a number cut to a range. Assumes nothing.
use Prim.Native.Nat.{◌+◌, ◌≤◌}
use native.Mathlib.Omega.{arith}
use mathlib.Core.Bool.{Bool, true, false, cond}
use mathlib.Core.Path.{◌≡◌, refl}
use lib.IntN.{ℤ}
use lib.Signed.{lt_z, le_z}
use Rattle.basis.specs.Parts.{above, below}
use Rattle.basis.specs.Cut.{cut_to}
use Rattle.basis.proofs.Parts.{ext, sides}
use Rattle.basis.proofs.Signed.{lt_true, lt_false, le_is}

module _ (low high z : ℤ) where
  -- a number that is cut at its lower end, at its upper end, and not at all
  pub cut_low : above z + below low ≤ above low + below z → above low + below high ≤ above high + below low → cut_to low high z ≡ low
  cut_low h k = by (lt_z z low) refl (lt_z high z) refl
    where
      by : (t : Bool) → lt_z z low ≡ t → (u : Bool) → lt_z high z ≡ u → cond t low (cond u high z) ≡ low
      by true e u f = refl
      by false e true f = absurd (omega (arith, lt_true high z f))
      by false e false f = let g = lt_false z low e in ext z low (omega (arith, sides z, sides low)) (omega (arith, sides z, sides low))

  pub cut_high : above high + below z ≤ above z + below high → above low + below high ≤ above high + below low → cut_to low high z ≡ high
  cut_high h k = by (lt_z z low) refl (lt_z high z) refl
    where
      by : (t : Bool) → lt_z z low ≡ t → (u : Bool) → lt_z high z ≡ u → cond t low (cond u high z) ≡ high
      by true e u f = absurd (omega (arith, lt_true z low e))
      by false e true f = refl
      by false e false f = let g = lt_false high z f in ext z high (omega (arith, sides z, sides high)) (omega (arith, sides z, sides high))

  pub cut_none : above low + below z ≤ above z + below low → above z + below high ≤ above high + below z → cut_to low high z ≡ z
  cut_none h k = by (lt_z z low) refl (lt_z high z) refl
    where
      by : (t : Bool) → lt_z z low ≡ t → (u : Bool) → lt_z high z ≡ u → cond t low (cond u high z) ≡ z
      by true e u f = absurd (omega (arith, lt_true z low e))
      by false e true f = absurd (omega (arith, lt_true high z f))
      by false e false f = refl

  -- where the ends are in order, what is cut lies between them
  module _ (ordered : above low + below high ≤ above high + below low) where
    pub cut_least : le_z low (cut_to low high z) ≡ true
    cut_least = by (lt_z z low) refl (lt_z high z)
      where
        by : (t : Bool) → lt_z z low ≡ t → (u : Bool) → le_z low (cond t low (cond u high z)) ≡ true
        by true e u = le_is low low (omega arith)
        by false e true = le_is low high ordered
        by false e false = le_is low z (lt_false z low e)

    pub cut_most : le_z (cut_to low high z) high ≡ true
    cut_most = by (lt_z z low) (lt_z high z) refl
      where
        by : (t u : Bool) → lt_z high z ≡ u → le_z (cond t low (cond u high z)) high ≡ true
        by true u f = le_is low high ordered
        by false true f = le_is high high (omega arith)
        by false false f = le_is z high (lt_false high z f)
