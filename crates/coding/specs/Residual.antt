-- The residual of a macroblock (`macroblock_residual`): source less the prediction coded against, in six blocks of 64.
use Rattle.std.specs.Prelude.{ℕ, ◌<◌, true, cond, List, ◌≡◌, eqb, ltb, ℤ, pos, negsuc, ◌-ℤ◌, get_or}
use Rattle.basis.specs.Lists.{tabulate, rows}
use Rattle.refusal.specs.Test.{in_range}
use Rattle.plane.specs.declared.SourceSize.{SourceSize}
use Rattle.plane.specs.declared.MacroblockPlace.{MacroblockPlace}
use Rattle.plane.specs.Samples.{Samples, samples}
use Rattle.plane.specs.Source.{source_luma, source_chroma, eight_of}

-- block b of six: four luma, Cb, Cr
abbrev pub samples_of : Samples → ℕ → List ℕ
samples_of s b = cond (ltb b 4) (eight_of s.y b) (cond (eqb b 4) s.cb s.cr)

-- a block of source samples less a block of predicted ones
abbrev pub block_residual : List ℕ → List ℕ → List ℤ
block_residual source prediction = tabulate 64 (λ k. pos (get_or source k 0) -ℤ pos (get_or prediction k 0))

-- all six
unfoldable pub residual_of : Samples → Samples → List ℤ
residual_of source prediction = rows 6 (λ b. block_residual (samples_of source b) (samples_of prediction b))

-- the macroblock's samples of the source, past the right or bottom the last column or row repeated
abbrev pub source_of : List ℕ → List ℕ → List ℕ → SourceSize → MacroblockPlace → Samples
source_of y cb cr size place = samples (source_luma y size place) (source_chroma cb size place) (source_chroma cr size place)

-- of a picture's samples
abbrev pub source_in : Samples → SourceSize → MacroblockPlace → Samples
source_in s size place = source_of s.y s.cb s.cr size place

-- the first n lie in -255..255, as differences of bytes do
pub record ResidualRange (n : ℕ) (l : List ℤ) : Type 0 where
  pub at : (i : ℕ) → i < n → in_range (negsuc 254) (pos 255) (get_or l i (pos 0)) ≡ true
