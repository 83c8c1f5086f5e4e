-- Which of a macroblock's six blocks are coded, as its two patterns say: four of luma, Cb, Cr. Rule P2.
use Rattle.std.specs.Prelude.{ℕ, Bool, cond, not, [], ◌∷◌, eqb, ltb, get_or}
use Rattle.std.specs.Int.Bits.{bit_and}
use Rattle.record.specs.declared.Record.{Record}

-- what block b's bit is worth: 8, 4, 2, 1 in the luma pattern; Cb 2 and Cr 1 in the chroma pattern
abbrev pub worth : ℕ → ℕ
worth b = get_or (8 ∷ 4 ∷ 2 ∷ 1 ∷ 2 ∷ 1 ∷ []) b 0

-- the pattern in which block b has its bit
abbrev pub pattern_of : Record → ℕ → ℕ
pattern_of r b = cond (ltb b 4) r.luma_pattern r.chroma_pattern

-- whether block b's bit is set, read by a mask
abbrev pub is_coded : Record → ℕ → Bool
is_coded r b = not (eqb (bit_and (pattern_of r b) (worth b)) 0)
