-- The program's lines: words in ASCII, a space between two of them, a newline at the end. Rules W5 to W7.
use Rattle.std.specs.Prelude.{Bool, cond, List, [], ◌∷◌, ◌++◌, ℕ, get_or}
use Rattle.refusal.specs.declared.Refusal.{Refusal}
use Rattle.refusal.specs.Number.{number_of}
use Rattle.record.specs.declared.MotionVector.{MotionVector}
use Rattle.record.specs.declared.Record.{Record}
use Rattle.record.specs.Zero.{zero_vector}
use Rattle.record.specs.Count.{events_in, four_total}
use Rattle.clip.specs.Decimal.{decimal, decimal_z}

-- words, each after a space
unfoldable pub spaced : List (List ℕ) → List ℕ
spaced [] = []
spaced (w ∷ ws) = 32 ∷ (w ++ spaced ws)

-- words, a space between two of them
unfoldable pub concatenated : List (List ℕ) → List ℕ
concatenated [] = []
concatenated (w ∷ ws) = w ++ spaced ws

unfoldable pub line_of : List (List ℕ) → List ℕ
line_of ws = concatenated ws ++ (10 ∷ [])

-- `refused`
abbrev pub refused_word : List ℕ
refused_word = 114 ∷ 101 ∷ 102 ∷ 117 ∷ 115 ∷ 101 ∷ 100 ∷ []

unfoldable pub refusal_line : Refusal → List ℕ
refusal_line r = line_of (refused_word ∷ decimal (number_of r) ∷ [])

-- horizontal, then vertical
abbrev pub vector_words : MotionVector → List (List ℕ)
vector_words v = decimal_z v.x ∷ decimal_z v.y ∷ []

-- column, row, vector, sum, luma pattern, chroma pattern, events of all six blocks
unfoldable pub macroblock_words : ℕ → ℕ → Record → List (List ℕ)
macroblock_words column row m =
    decimal column ∷ decimal row ∷ vector_words m.vector ++ (decimal m.sum
    ∷ decimal m.luma_pattern ∷ decimal m.chroma_pattern ∷ decimal (events_in m.counts) ∷ [])

abbrev pub vector_at : Record → ℕ → MotionVector
vector_at m i = get_or m.vectors i zero_vector

-- the four vectors, then the total of their sums
unfoldable pub four_words : Record → List (List ℕ)
four_words m =
    vector_words (vector_at m 0) ++ (vector_words (vector_at m 1) ++ (vector_words (vector_at m 2)
    ++ (vector_words (vector_at m 3) ++ (decimal (four_total m.sums) ∷ []))))

-- a macroblock's line; the words of four vectors follow where they were searched for
unfoldable pub macroblock_line : ℕ → ℕ → Record → Bool → List ℕ
macroblock_line column row m four = line_of (macroblock_words column row m ++ cond four (four_words m) [])
