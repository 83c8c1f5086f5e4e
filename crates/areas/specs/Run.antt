-- A picture's run and its totals as the numbers that C keeps.
use Rattle.std.specs.Prelude.{ℕ, List, [], ◌∷◌, get_or}
use Rattle.plane.specs.declared.MacroblockPlace.{MacroblockPlace}
use Rattle.picture.specs.declared.Run.{Run}
use Rattle.picture.specs.declared.Totals.{Totals}
use Rattle.areas.specs.Numbers.{size_of}

-- width, height, macroblocks given, their events, their one-vector sums; any five numbers are a run
abbrev pub run_of : List ℕ → Run
run_of l = record { size = size_of (get_or l 0 0) (get_or l 1 0); macroblocks = get_or l 2 0; events = get_or l 3 0; sums = get_or l 4 0 }

abbrev pub run_numbers : Run → List ℕ
run_numbers r = r.size.width ∷ r.size.height ∷ r.macroblocks ∷ r.events ∷ r.sums ∷ []

-- column, then row
abbrev pub place_numbers : MacroblockPlace → List ℕ
place_numbers at = at.column ∷ at.row ∷ []

abbrev pub totals_numbers : Totals → List ℕ
totals_numbers t = t.macroblocks ∷ t.events ∷ t.sums ∷ []
