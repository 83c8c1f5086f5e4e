-- Every starred example holds: antt computes the table. Assumes nothing.
use lib.Dec.{T}
use Rattle.coding.specs.Coding.{luma_pattern_of, chroma_pattern_of}
use Rattle.prediction.specs.Chroma.{chroma_vector}
use Rattle.quarter_sample.specs.Filter.{mirror, weighted, fir}
use Rattle.basis.specs.Lists.{tabulate}
use Rattle.quantise.specs.Level.{level_by_quantiser, level_by_weight, inverse_by_quantiser}
use Rattle.scan.specs.Event.{lasts_area, runs_area, levels_area}
use Rattle.scan.specs.Grid.{zigzag, grid_of, scanned}
use Rattle.search.specs.Range.{range, low, high}
use Rattle.examples.specs.Starred.{ranges, taps, reflections, levels, scanned_levels, events, patterns, chroma, starred}

pub examples : T starred
unfolding starred ranges taps reflections levels events patterns chroma scanned_levels chroma_vector
    range low high mirror weighted fir level_by_quantiser level_by_weight inverse_by_quantiser
    scanned grid_of zigzag tabulate lasts_area runs_area levels_area luma_pattern_of chroma_pattern_of
examples = tt
