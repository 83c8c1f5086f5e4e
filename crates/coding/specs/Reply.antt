-- What turns a residual's entries back (rules F6 to F14, O4, O5), and what they answer.
use Rattle.refusal.specs.declared.Refusal.{Refusal}
use Rattle.std.specs.Prelude.{ℕ, ◌&&◌, List, eqb, ℤ, pos, negsuc, length, Result, Ok}
use Rattle.refusal.specs.declared.Refusal.TheVariants.{Length, Range, Choice}
use Rattle.refusal.specs.Reply.{Reply, answer, unless, and_then}
use Rattle.refusal.specs.Test.{between, all_in_range}
use Rattle.plane.specs.declared.SourceSize.{SourceSize}
use Rattle.plane.specs.declared.MacroblockPlace.{MacroblockPlace}
use Rattle.plane.specs.Samples.{Samples}
use Rattle.plane.specs.Source.{source_reply}
use Rattle.quantise.specs.Block.{weight_reply}
use Rattle.reader.specs.Handed.{Areas}
use Rattle.coding.specs.Coding.{Quantising, count_of, counts_of}

-- ---- `macroblock_residual`

-- 6, 7, 8 of planes of y, cb and cr samples; 12 of a prediction of py, pcb and pcr samples and of an area
unfoldable pub residual_reply : SourceSize → ℕ → ℕ → ℕ → MacroblockPlace → ℕ → ℕ → ℕ → ℕ → Reply
residual_reply size y cb cr place py pcb pcr area =
    and_then (source_reply size y cb cr place) (unless ((eqb py 256 && (eqb pcb 64 && eqb pcr 64)) && eqb area 384) Length (Ok tt))

-- the same of samples
abbrev pub samples_reply : Samples → SourceSize → MacroblockPlace → Samples → ℕ → Reply
samples_reply s size place p area =
    residual_reply size (length s.y) (length s.cb) (length s.cr) place (length p.y) (length p.cb) (length p.cr) area

-- ---- `quantise_inter_block` and `quantise_inter_residual`

-- 10, 11, 12, 13, 14 of a residual of n places, and of three areas, each as long as the residual
unfoldable pub coding_reply : ℕ → List ℤ → Quantising → ℕ → ℕ → ℕ → Reply
coding_reply n residual by lasts runs levels =
    and_then (weight_reply by.quantiser by.first by.weights)
    (unless ((eqb (length residual) n && eqb (length by.weights) 64) && (eqb lasts n && (eqb runs n && eqb levels n))) Length
    (unless (all_in_range (negsuc 254) (pos 255) residual) Range
    (unless (between 0 2 by.scan) Choice (Ok tt))))

-- the same of areas
abbrev pub areas_reply : ℕ → List ℤ → Quantising → Areas → Reply
areas_reply n residual by a = coding_reply n residual by (length a.lasts) (length a.runs) (length a.levels)

-- the number of events
abbrev pub block_events : Reply → Quantising → List ℤ → Result ℕ Refusal
block_events reply by block = answer reply (count_of by block)

abbrev pub residual_events : Reply → Quantising → List ℤ → Result (List ℕ) Refusal
residual_events reply by residual = answer reply (counts_of by residual)
