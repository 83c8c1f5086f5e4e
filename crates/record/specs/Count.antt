-- What a record counts: the events of its six blocks, the total of its four sums.
use Rattle.std.specs.Prelude.{ℕ, ◌+◌, List, get_or}

abbrev pub events_in : List ℕ → ℕ
events_in counts = get_or counts 0 0 + get_or counts 1 0 + get_or counts 2 0 + get_or counts 3 0 + get_or counts 4 0 + get_or counts 5 0

abbrev pub four_total : List ℕ → ℕ
four_total sums = get_or sums 0 0 + get_or sums 1 0 + get_or sums 2 0 + get_or sums 3 0
