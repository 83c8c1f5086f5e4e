-- The reader's prediction of all 384 samples, from the record, the reference's three planes and a rounding type: what a macroblock whose
-- prediction was made by the coder was coded against.
use Rattle.std.specs.Prelude.{ℕ}
use Rattle.plane.specs.Plane.{Plane}
use Rattle.plane.specs.Samples.{Samples}
use Rattle.prediction.specs.Planes.{Planes}
use Rattle.prediction.specs.Prediction.{motion_of, macroblock_prediction}
use Rattle.reader.specs.Handed.{Handed}

-- the planes of what the reader is handed, Cb and Cr beside luma
abbrev pub planes_in : Handed → Plane → Plane → Planes
planes_in h cb cr = record { y = h.reference; cb = cb; cr = cr }

-- by the record's four vectors where the vector count is 4, else by its one
abbrev pub read_prediction : ℕ → Handed → Plane → Plane → Samples
read_prediction rounding h cb cr =
    macroblock_prediction h.mode (planes_in h cb cr) (motion_of h.vectors h.coded.vector h.coded.vectors) h.place rounding
