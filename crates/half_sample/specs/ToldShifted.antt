-- Told, not believed: the block that a lent one is, and how many samples it has.
use Rattle.std.specs.Prelude.{ℕ, ◌*◌, List}
use Rattle.plane.specs.Plane.{plane_of}
use Rattle.half_sample.specs.declared.shifted.Shifted.{Shifted}
use Rattle.half_sample.specs.ToldRows.{block_by}

abbrev pub shifted_block : Shifted → List ℕ
shifted_block b = block_by (plane_of b.samples.now b.geometry) b.at b.site b.halves

abbrev pub area_of : Shifted → ℕ
area_of b = b.site.height * b.site.width
