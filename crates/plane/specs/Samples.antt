-- Samples of luma, Cb and Cr.
use Rattle.std.specs.Prelude.{ℕ, ◌≡◌, List}
use Rattle.plane.specs.declared.Samples as lent
use Rattle.plane.specs.declared.SamplesMut.{SamplesMut}

-- a picture's planes, or of a macroblock 16 x 16 of luma and 8 x 8 of Cb and of Cr, each by rows
pub record Samples : Type 0 where
  pub y : List ℕ
  pub cb : List ℕ
  pub cr : List ℕ

abbrev pub samples : List ℕ → List ℕ → List ℕ → Samples
samples y cb cr = record { y = y; cb = cb; cr = cr }

-- what stands in lent ones
abbrev pub lent_samples : lent.Samples → Samples
lent_samples s = samples s.y.now s.cb.now s.cr.now

abbrev pub written_samples : SamplesMut → Samples
written_samples s = samples s.y.now s.cb.now s.cr.now

-- these are the areas that were lent, whatever stands in them
pub record SameSamples (old new : SamplesMut) : Type 0 where
  pub y_same : new.y.ghost_name ≡ old.y.ghost_name
  pub cb_same : new.cb.ghost_name ≡ old.cb.ghost_name
  pub cr_same : new.cr.ghost_name ≡ old.cr.ghost_name
