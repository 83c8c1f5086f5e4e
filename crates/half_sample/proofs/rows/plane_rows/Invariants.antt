-- The block as far as the loop has come.
use Rattle.std.proofs.Common.{ℕ, ◌≡◌, List, ℤ, pos}
use Rattle.basis.specs.Lists.{tabulate}
use Rattle.basis.proofs.Lists.{laid}
use Rattle.plane.specs.Plane.{Plane, geometry_of, plane_of}
use Rattle.half_sample.specs.declared.Halves.{Halves}
use Rattle.half_sample.specs.ToldRows.{sample_by}
use Rattle.half_sample.proofs.rows.plane_rows.Given as goal

-- row j of the block
abbrev pub block_row : Plane → ℕ → ℤ → Halves → ℕ → ℕ → List ℕ
block_row p column y halves w j = tabulate w (λ i. sample_by p (pos column) y halves i j)

abbrev pub invariant-loop-j : goal.invariant-loop-j
invariant-loop-j l =
    l.out ≡ laid l.w (block_row (plane_of l.samples (geometry_of l.width l.height l.stride)) l.column l.at.y l.halves l.w) l.j l.initial.out
