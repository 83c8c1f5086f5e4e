-- For the reader: lines worked out, that of rule W9, a refusal, and one that fills a text to its last place. Assumes nothing.
use Prim.Native.Nat.{ℕ}
use native.Mathlib.Omega.{arith}
use mathlib.Core.Bool.{true, false}
use mathlib.Core.List.{[], ◌∷◌}
use mathlib.Core.Path.{◌≡◌, refl}
use lib.IntN.{pos, negsuc}
use lib.ListN.{length, replicate, length-append}
use Rattle.refusal.specs.declared.Refusal.TheVariants.{Length}
use Rattle.record.specs.declared.MotionVector.{MotionVector}
use Rattle.record.specs.declared.Record.{Record}
use Rattle.record.specs.Zero.{zero_vector, no_record}
use Rattle.clip.specs.Decimal.{digits, decimal, decimal_z}
use Rattle.clip.specs.Line.{spaced, concatenated, line_of, refusal_line, macroblock_words, four_words, macroblock_line}
use Rattle.clip.proofs.Digits.{exactly}

-- `0 0 0 0 0 0 0 0`
pub document_line : macroblock_line 0 0 no_record false
    ≡ 48 ∷ 32 ∷ 48 ∷ 32 ∷ 48 ∷ 32 ∷ 48 ∷ 32 ∷ 48 ∷ 32 ∷ 48 ∷ 32 ∷ 48 ∷ 32 ∷ 48 ∷ 10 ∷ []
unfolding digits decimal decimal_z spaced concatenated line_of macroblock_words macroblock_line
document_line = refl

-- `1 0 0 0 4764 0 0 0 -3 0 0 0 0 0 0 0 4504`: a negative component, and the total of four sums
abbrev three_left : MotionVector
three_left = record { x = negsuc 2; y = pos 0 }

abbrev four_found : Record
four_found = record {
  vector = zero_vector;
  sum = 4764;
  vectors = three_left ∷ zero_vector ∷ zero_vector ∷ zero_vector ∷ [];
  sums = 1000 ∷ 2000 ∷ 1004 ∷ 500 ∷ [];
  luma_pattern = 0;
  chroma_pattern = 0;
  counts = replicate 6 0;
}

pub four_line : macroblock_line 1 0 four_found true
    ≡ 49 ∷ 32 ∷ 48 ∷ 32 ∷ 48 ∷ 32 ∷ 48 ∷ 32 ∷ 52 ∷ 55 ∷ 54 ∷ 52 ∷ 32 ∷ 48 ∷ 32 ∷ 48 ∷ 32 ∷ 48 ∷ 32 ∷ 45 ∷ 51 ∷ 32 ∷ 48 ∷
    32 ∷ 48 ∷ 32 ∷ 48 ∷ 32 ∷ 48 ∷ 32 ∷ 48 ∷ 32 ∷ 48 ∷ 32 ∷ 48 ∷ 32 ∷ 52 ∷ 53 ∷ 48 ∷ 52 ∷ 10 ∷ []
unfolding digits decimal decimal_z spaced concatenated line_of macroblock_words four_words macroblock_line
four_line = refl

-- `refused 12`
pub refused_twelve : refusal_line Length ≡ 114 ∷ 101 ∷ 102 ∷ 117 ∷ 115 ∷ 101 ∷ 100 ∷ 32 ∷ 49 ∷ 50 ∷ 10 ∷ []
unfolding digits decimal spaced concatenated line_of refusal_line
refused_twelve = refl

abbrev least_vector : MotionVector
least_vector = record { x = negsuc 2147483647; y = negsuc 2147483647 }

-- each number as long as its type allows
abbrev longest : Record
longest =
    record {
      vector = least_vector;
      sum = 4294967295;
      vectors = replicate 4 least_vector;
      sums = replicate 4 4294967295;
      luma_pattern = 255;
      chroma_pattern = 255;
      counts = replicate 6 255;
    }

abbrev last : ℕ
last = 18446744073709551615

-- a text of fewer places would cut a line
pub least_room : length (macroblock_line last last longest true) ≡ 198
unfolding decimal_z spaced concatenated line_of macroblock_words four_words macroblock_line
least_room =
    simp length-append
    (omega (
      arith,
      exactly last 19 (omega arith) (omega arith),
      exactly 2147483648 9 (omega arith) (omega arith),
      exactly 4294967295 9 (omega arith) (omega arith),
      exactly 255 2 (omega arith) (omega arith),
      exactly 1530 3 (omega arith) (omega arith),
      exactly 17179869180 10 (omega arith) (omega arith),
    ))
