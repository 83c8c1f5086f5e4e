-- How long the program's lines can be: no line is ever cut. Assumes nothing.
use Prim.Native.Nat.{ℕ, suc, ◌+◌, ◌<◌, ◌≤◌, ◌^◌}
use native.Mathlib.Omega.{arith}
use mathlib.Core.Bool.{Bool, true, false, cond}
use mathlib.Core.List.{[]}
use lib.IntN.{ℤ, pos, negsuc}
use lib.ListN.{length, length-append}
use lib.Signed.{mag}
use Rattle.refusal.specs.declared.Refusal.{Refusal}
use Rattle.refusal.specs.Number.{number_of}
use Rattle.record.specs.declared.MotionVector.{MotionVector}
use Rattle.record.specs.declared.Record.{Record}
use Rattle.record.specs.Count.{events_in, four_total}
use Rattle.clip.specs.Decimal.{decimal_z}
use Rattle.clip.specs.Line.{spaced, concatenated, line_of, refusal_line, macroblock_words, vector_at, four_words, macroblock_line}
use Rattle.clip.proofs.Digits.{length-decimal, twenty_are_enough}
use Rattle.clip.proofs.TypedRecord.{TypedVector, TypedRecord}
use Rattle.clip.proofs.Lines.{further}

-- a signed number of 32 bits has at most ten digits and a sign
length-decimal_z : (z : ℤ) → mag z < 2 ^ 31 → length (decimal_z z) ≤ 11
unfolding decimal_z
length-decimal_z (pos n) h = omega (arith, length-decimal n 9 (omega arith))
length-decimal_z (negsuc n) h = omega (arith, length-decimal (suc n) 9 (omega arith))

vector_short : (v : MotionVector) → TypedVector v → length (decimal_z v.x) + length (decimal_z v.y) ≤ 22
vector_short v t = omega (arith, length-decimal_z v.x t.horizontal, length-decimal_z v.y t.vertical)

-- column and row 20 digits each, vector 22, sum 10, patterns 3 each, events 4, seven spaces
macroblock_short : (column row : ℕ) (m : Record) → column < 2 ^ 64 → row < 2 ^ 64 → TypedRecord m
    → length (concatenated (macroblock_words column row m)) ≤ 89
unfolding concatenated spaced macroblock_words
macroblock_short column row m h k t =
    simp length-append
    (omega (
      arith,
      twenty_are_enough column h,
      twenty_are_enough row k,
      vector_short m.vector t.vector,
      length-decimal m.sum 9 (omega (arith, t.sum)),
      length-decimal m.luma_pattern 2 (omega (arith, t.luma)),
      length-decimal m.chroma_pattern 2 (omega (arith, t.chroma)),
      length-decimal (events_in m.counts) 3 (omega (arith, t.counts 0, t.counts 1, t.counts 2, t.counts 3, t.counts 4, t.counts 5)),
    ))

-- four vectors 24 each with their spaces, their total 11 digits and a space
four_short : (m : Record) → TypedRecord m → length (spaced (four_words m)) ≤ 108
unfolding four_words spaced
four_short m t =
    simp length-append
    (omega (
      arith,
      vector_short (vector_at m 0) (t.vectors 0),
      vector_short (vector_at m 1) (t.vectors 1),
      vector_short (vector_at m 2) (t.vectors 2),
      vector_short (vector_at m 3) (t.vectors 3),
      length-decimal (four_total m.sums) 10 (omega (arith, t.sums 0, t.sums 1, t.sums 2, t.sums 3)),
    ))

further_short : (m : Record) (four : Bool) → TypedRecord m → length (spaced (cond four (four_words m) [])) ≤ 108
unfolding spaced
further_short m true t = four_short m t
further_short m false t = omega arith

-- no line is ever cut: 198 bytes hold that of any record, wherever it stands
pub line_short : (column row : ℕ) (m : Record) (four : Bool) → column < 2 ^ 64 → row < 2 ^ 64 → TypedRecord m
    → length (macroblock_line column row m four) ≤ 198
unfolding macroblock_line line_of
line_short column row m four h k t =
    simp (further, length-append)
    (omega (arith, macroblock_short column row m h k t, further_short m four t))

pub refusal_short : (why : Refusal) → number_of why < 256 → length (refusal_line why) ≤ 198
unfolding refusal_line line_of concatenated spaced
refusal_short why h = simp length-append (omega (arith, length-decimal (number_of why) 2 (omega arith)))
