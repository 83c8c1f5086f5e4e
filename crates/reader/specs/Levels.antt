-- The reader's 384 levels, in six blocks (four luma, Cb, Cr), and what they stand for (rules R3 to R6).
use Rattle.std.specs.Prelude.{ℕ, ◌%◌, cond, List, ℤ, pos, get_or, replicate}
use Rattle.basis.specs.Lists.{tabulate, rows}
use Rattle.record.specs.Pattern.{is_coded}
use Rattle.scan.specs.Read.{read_block}
use Rattle.quantise.specs.Block.{Inverse, second_inverse}
use Rattle.reader.specs.Handed.{Handed, parts_of}

-- block b's levels, by rows: 0 where its bit is clear; elsewhere `read_block` counts from 0, and each event of the block's area, up to and
-- with the one marked last, adds its run, puts its level at the scan place so counted and adds 1
abbrev pub read_part : Handed → ℕ → List ℤ
read_part h b =
    let a = parts_of b h.areas in
    cond (is_coded h.coded b) (read_block h.scan a.lasts a.runs a.levels) (replicate 64 (pos 0))

-- all 384
unfoldable pub read_levels : Handed → List ℤ
read_levels h = rows 6 (read_part h)

-- each through a method's inverse, at its place in its block
abbrev pub read_by : Inverse → Handed → List ℤ
read_by inverse h = tabulate 384 (λ i. inverse (i % 64) (get_or (read_levels h) i (pos 0)))

-- which is the second's
unfoldable pub read_inverse : Handed → List ℤ
read_inverse h = read_by (second_inverse h.quantiser) h
