-- Told, not believed: what private functions need of samples, residuals and settings.
use Rattle.std.specs.Int.RustNames.{bit_or}
use Rattle.std.specs.List.{fold}
use Rattle.std.specs.Prelude.{ℕ, ◌+◌, ◌*◌, ◌/◌, ◌%◌, ◌≤◌, true, List, ◌≡◌, ℤ, pos, ◌-ℤ◌, length, get_or, Ok}
use Rattle.refusal.specs.Test.{between}
use Rattle.quantise.specs.Block.{weight_reply}
use Rattle.plane.specs.declared.SourceSize.{SourceSize}
use Rattle.plane.specs.declared.MacroblockPlace.{MacroblockPlace}
use Rattle.plane.specs.Source.{source_reply}
use Rattle.plane.specs.Samples.{Samples}
use Rattle.reader.specs.Handed.{Areas}
use Rattle.coding.specs.Residual.{ResidualRange}
use Rattle.coding.specs.Coding.{Quantising, bit}

-- the samples of a macroblock
pub record Whole (s : Samples) : Type 0 where
  pub luma : length s.y ≡ 256
  pub blue : length s.cb ≡ 64
  pub red : length s.cr ≡ 64

-- sample k of 8 x 8, from one place on in rows a stride apart, less the one predicted there
abbrev pub difference_at : ℕ → ℕ → List ℕ → List ℕ → ℕ → ℤ
difference_at stride from source prediction k =
    let at = from + k / 8 * stride + k % 8 in pos (get_or source at 0) -ℤ pos (get_or prediction at 0)

-- the last of the 64 lies in both, and the area is as long
pub record PartNeeds (stride from source prediction area : ℕ) : Type 0 where
  pub in_source : from + 7 * stride + 8 ≤ source
  pub in_prediction : from + 7 * stride + 8 ≤ prediction
  pub area_long : area ≡ 64

-- the bits of counts, as they are shifted in: 1 for a count that is not 0
abbrev pub pattern_of : List ℕ → ℕ
pattern_of counts = fold (λ bits count. bit_or (bits * 2 % 256) (bit count)) 0 counts

-- neither 10, 11, 12 of the matrix nor 14 of the scan applies
pub record Quantisable (by : Quantising) : Type 0 where
  pub weighed : weight_reply by.quantiser by.first by.weights ≡ Ok tt
  pub long : length by.weights ≡ 64
  pub known : between 0 2 by.scan ≡ true

-- a residual of n places that is not refused
pub record CodingAccepted (n : ℕ) (residual : List ℤ) (by : Quantising) (lasts runs levels : ℕ) : Type 0 where
  pub quantisable : Quantisable by
  pub long : length residual ≡ n
  pub small : ResidualRange n residual
  pub lasts_long : lasts ≡ n
  pub runs_long : runs ≡ n
  pub levels_long : levels ≡ n

-- the same of areas
abbrev pub AreasAccepted : ℕ → List ℤ → Quantising → Areas → Type 0
AreasAccepted n residual by a = CodingAccepted n residual by (length a.lasts) (length a.runs) (length a.levels)

-- a macroblock of which a residual is made and not refused
pub record ResidualAccepted (size : SourceSize) (y cb cr : ℕ) (place : MacroblockPlace) (p : Samples) (area : ℕ) : Type 0 where
  pub source : source_reply size y cb cr place ≡ Ok tt
  pub whole : Whole p
  pub long : area ≡ 384

-- the same of samples
abbrev pub SamplesAccepted : Samples → SourceSize → MacroblockPlace → Samples → ℕ → Type 0
SamplesAccepted s size place p area = ResidualAccepted size (length s.y) (length s.cb) (length s.cr) place p area
