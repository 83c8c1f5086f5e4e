-- Whether a number lies between two others, both included, and whether a list's entries all pass a test.
use Rattle.std.specs.Prelude.{ℕ, Bool, ◌&&◌, List, leb, ℤ}
use Rattle.std.specs.List.{list_all}
use Rattle.std.specs.Int.Signed.{le_z}

abbrev pub between : ℕ → ℕ → ℕ → Bool
between low high n = leb low n && leb n high

abbrev pub in_range : ℤ → ℤ → ℤ → Bool
in_range low high z = le_z low z && le_z z high

abbrev pub all_in_range : ℤ → ℤ → List ℤ → Bool
all_in_range low high zs = list_all (in_range low high) zs
