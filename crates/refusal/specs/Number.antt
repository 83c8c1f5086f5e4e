-- The number of each refusal in the two lists (rules F1 to F31), and of an answer: 0 where nothing is refused.
use Rattle.std.specs.Prelude.{ℕ, Result, Ok, Err}
use Rattle.refusal.specs.declared.Refusal.{Refusal}
use Rattle.refusal.specs.declared.Refusal.TheVariants.{Fcode, Mode, BitsPerPixel, ReferenceSize, ReferenceBytes, SourceSide, SourcePlane, Place, Seed, Quantiser, Weight, Length, Range, Choice, AfterLast, OtherSize, BeforeLast, RoundingType}

abbrev pub number_of : Refusal → ℕ
number_of Fcode = 1
number_of Mode = 2
number_of BitsPerPixel = 3
number_of ReferenceSize = 4
number_of ReferenceBytes = 5
number_of SourceSide = 6
number_of SourcePlane = 7
number_of Place = 8
number_of Seed = 9
number_of Quantiser = 10
number_of Weight = 11
number_of Length = 12
number_of Range = 13
number_of Choice = 14
number_of AfterLast = 21
number_of OtherSize = 22
number_of BeforeLast = 23
number_of RoundingType = 31

abbrev pub code_of : {T : Type 0} → Result T Refusal → ℕ
code_of (Ok _) = 0
code_of (Err why) = number_of why
