-- When a lent area is the stored one: the answer's elements where the call is not refused, and after them, or where it is, the bytes
-- 0xa5 that every lent area is full of before its call.
use Rattle.std.specs.Prelude.{ℕ, zero, suc, ◌+◌, ◌*◌, Bool, cond, ◌&&◌, List, eqb, leb, ltb, ℤ, pos, negsuc, length, get_or}
use Rattle.refusal.specs.Test.{in_range}
use Rattle.stored.specs.Call.{reply_at, word_at, long_at, signed_at, position_of, count_of}

-- start, and what p says of each number below n
unfoldable pub up_to : Bool → (ℕ → Bool) → ℕ → Bool
up_to start p zero = start
up_to start p (suc n) = up_to start p n && p n

unfoldable pub answered_of : List ℕ → ℕ → ℕ
answered_of l k = cond (eqb (reply_at l) 0) (count_of l k) 0

-- how an area of one type of element is held to the stored one
pub record Kind (T : Type 0) : Type 0 where
  -- element i of an area that stands at p
  pub element : List ℕ → ℕ → ℕ → T
  -- what every lent area is full of
  pub untouched : T
  -- what is read past an area's end, where nothing is asked for
  pub none : T
  -- whether an element is the one that is wanted
  pub is : T → T → Bool

abbrev pub byte_kind : Kind ℕ
byte_kind = record { element = λ l p i. get_or l (p + i) 0; untouched = 165; none = 0; is = eqb }

abbrev pub word_kind : Kind ℕ
word_kind = record { element = λ l p i. word_at l (p + 4 * i); untouched = 2779096485; none = 0; is = eqb }

abbrev pub long_kind : Kind ℕ
long_kind = record { element = λ l p i. long_at l (p + 8 * i); untouched = 11936128518282651045; none = 0; is = eqb }

abbrev pub signed_kind : Kind ℤ
signed_kind =
    record { element = λ l p i. signed_at l (p + 4 * i); untouched = negsuc 1515870810; none = pos 0; is = λ x wanted. in_range wanted wanted x }

-- element i of an area whose answer of n elements stands at p
abbrev pub wanted : {T : Type 0} → Kind T → List ℕ → ℕ → ℕ → ℕ → T
wanted kind l p n i = cond (ltb i n) (kind.element l p i) kind.untouched

-- whether element i is the stored one
abbrev pub element_is : {T : Type 0} → Kind T → List ℕ → ℕ → List T → ℕ → Bool
element_is kind l k area i = kind.is (get_or area i kind.none) (wanted kind l (position_of l k) (answered_of l k) i)

-- an area has room for the answer, and each of its elements is the stored one
unfoldable pub area_same : {T : Type 0} → Kind T → List ℕ → ℕ → List T → Bool
area_same kind l k area = up_to (leb (answered_of l k) (length area)) (element_is kind l k area) (length area)

abbrev pub bytes_same : List ℕ → ℕ → List ℕ → Bool
bytes_same = area_same byte_kind

abbrev pub words_same : List ℕ → ℕ → List ℕ → Bool
words_same = area_same word_kind

abbrev pub longs_same : List ℕ → ℕ → List ℕ → Bool
longs_same = area_same long_kind

abbrev pub signeds_same : List ℕ → ℕ → List ℤ → Bool
signeds_same = area_same signed_kind
