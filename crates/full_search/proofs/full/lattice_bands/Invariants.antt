-- `full_search::full::lattice_bands` meets its contract.
use Prim.Native.Nat.{◌-◌, min}
use mathlib.Core.Path.{◌≡◌}
use lib.ListN.{length}
use Rattle.full_search.specs.ToldKept.{kept_of, sixteen_cost, rows_below}
use Rattle.full_search.proofs.full.lattice_bands.Given as goal

-- j goes past the last row where the last band is not full
abbrev pub invariant-loop-j : goal.invariant-loop-j
invariant-loop-j l =
    (length l.band ≡ length l.initial.band)
    × (l.b ≡ kept_of (sixteen_cost l.judged) l.initial.b (rows_below l.first (min l.j l.lines)))

abbrev pub decreases-loop-j : goal.decreases-loop-j
decreases-loop-j l = l.lines - l.j
