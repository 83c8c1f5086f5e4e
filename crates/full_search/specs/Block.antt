-- A block that is searched for in a reference, and its sums of absolute differences. Rules C2, B4.
use Rattle.std.specs.Prelude.{ℕ, ◌+◌, ◌*◌, ◌/◌, ◌%◌, List, ◌+ℤ◌, get_or}
use Rattle.basis.specs.Sums.{sum_to, abs_diff}
use Rattle.record.specs.declared.MotionVector.{MotionVector}
use Rattle.plane.specs.declared.Point.{Point}
use Rattle.plane.specs.Plane.{Plane, plane_of, copied}
use Rattle.plane.specs.Corner.{block_corner}
use Rattle.full_search.specs.declared.Sought.{Sought}
use Rattle.full_search.specs.declared.Target.{Target}

-- f and g give a block's sample at column i and row j
unfoldable pub differences : ℕ → (ℕ → ℕ → ℕ) → (ℕ → ℕ → ℕ) → ℕ
differences side f g = sum_to side (λ j. sum_to side (λ i. abs_diff (f i j) (g i j)))

-- a block that is searched for: the source at its column i and row j, the reference, and where its corner stands
pub record Block : Type 0 where
  pub side : ℕ
  pub source : ℕ → ℕ → ℕ
  pub reference : Plane
  pub corner : Point

-- 8 x 8 block n of a macroblock, 0 and 1 above 2 and 3
abbrev pub eight : Block → ℕ → Block
eight b n =
    record {
      side = 8;
      source = λ i j. b.source (8 * (n % 2) + i) (8 * (n / 2) + j);
      reference = b.reference;
      corner = block_corner b.corner n;
    }

-- samples that are listed row by row, `side` a row: that at column i and row j
abbrev pub row_by_row : ℕ → List ℕ → ℕ → ℕ → ℕ
row_by_row side samples i j = get_or samples (j * side + i) 0

-- the block of these source samples at a corner of this reference
abbrev pub block_in : ℕ → List ℕ → Plane → Point → Block
block_in side source p corner = record { side = side; source = row_by_row side source; reference = p; corner = corner }

abbrev pub block_of : List ℕ → List ℕ → Target → Block
block_of source samples t = block_in t.side source (plane_of samples t.geometry) t.corner

-- the block that is sought in lent samples
abbrev pub lent_block : Sought → Block
lent_block s = block_of s.source.now s.reference.now s.target

-- its sum at a displacement by whole samples, from the reference's own samples
unfoldable pub copied_sum : Block → MotionVector → ℕ
copied_sum b d = differences b.side b.source (copied b.reference (b.corner.x +ℤ d.x) (b.corner.y +ℤ d.y))
