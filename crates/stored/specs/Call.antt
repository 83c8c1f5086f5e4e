-- A stored call (docs/STORED.md): the entry's number, the reply, where the answers begin, then slots of eight bytes: a number takes one,
-- an area two, where it stands and how many elements it has. Numbers stand high byte first; past its end a call reads as 0.
use Rattle.std.specs.Prelude.{ℕ, ◌+◌, ◌*◌, List, ℤ, get_or, take, drop}
use Rattle.std.specs.Int.{w32}
use Rattle.std.proofs.Common.{to_z}

abbrev pub slot_at : ℕ → ℕ
slot_at k = 6 + 8 * k

abbrev pub reply_at : List ℕ → ℕ
reply_at l = get_or l 1 0

unfoldable pub word_at : List ℕ → ℕ → ℕ
word_at l at = ((get_or l at 0 * 256 + get_or l (at + 1) 0) * 256 + get_or l (at + 2) 0) * 256 + get_or l (at + 3) 0

abbrev pub long_at : List ℕ → ℕ → ℕ
long_at l at = word_at l at * 4294967296 + word_at l (at + 4)

-- in two's complement
abbrev pub signed_at : List ℕ → ℕ → ℤ
signed_at l at = to_z w32 (word_at l at)

-- where the area of slot k stands, and how many elements it has
abbrev pub position_of : List ℕ → ℕ → ℕ
position_of l k = word_at l (slot_at k + 4)

abbrev pub count_of : List ℕ → ℕ → ℕ
count_of l k = word_at l (slot_at k + 12)

-- the bytes of an area, as many as the call has
unfoldable pub area_of : List ℕ → ℕ → List ℕ
area_of l k = take (count_of l k) (drop (position_of l k) l)
