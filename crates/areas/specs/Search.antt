-- What the search's entries reply, and what their areas hold: 12 after 1 .. 9 (rule O7).
use Rattle.refusal.specs.declared.Refusal.{Refusal}
use Rattle.search.specs.declared.EstimatedFour.{EstimatedFour}
use Rattle.search.specs.declared.Estimated.{Estimated}
use Rattle.std.specs.Prelude.{ℕ, ◌&&◌, List, [], ◌∷◌, eqb, ℤ, Result, Ok}
use Rattle.refusal.specs.declared.Refusal.TheVariants.{Length}
use Rattle.refusal.specs.Reply.{unless, also}
use Rattle.record.specs.declared.MotionVector.{MotionVector}

-- what the search replies, then 12 where an area is not exactly as long as its answer: a vector's two numbers and its sum
abbrev pub one_answer : Result Estimated Refusal → ℕ → ℕ → Result Estimated Refusal
one_answer searched vector sum = also searched (unless (eqb vector 2 && eqb sum 1) Length (Ok tt))

-- four vectors' eight numbers and their sums
abbrev pub four_answer : Result EstimatedFour Refusal → ℕ → ℕ → Result EstimatedFour Refusal
four_answer searched vectors sums = also searched (unless (eqb vectors 8 && eqb sums 4) Length (Ok tt))

-- horizontal, then vertical
abbrev pub vector_area : MotionVector → List ℤ
vector_area v = v.x ∷ v.y ∷ []

-- each vector's horizontal, then vertical
abbrev pub vectors_area : List MotionVector → List ℤ
vectors_area [] = []
vectors_area (v ∷ vs) = v.x ∷ v.y ∷ vectors_area vs
