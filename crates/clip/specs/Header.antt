-- The header of the program's input: eight bytes. Rules W1, W2.
use Rattle.refusal.specs.declared.Refusal.{Refusal}
use Rattle.std.specs.Prelude.{◌&&◌, List, ℕ, ◌+◌, ◌*◌, leb, get_or, Result, Ok}
use Rattle.refusal.specs.declared.Refusal.TheVariants.{Fcode, Mode, SourceSide, Quantiser, Length, Choice}
use Rattle.refusal.specs.Reply.{Reply, answer, unless}
use Rattle.refusal.specs.Bounds.{is_fcode, is_mode, is_quantiser, is_vector_count}
use Rattle.refusal.specs.Test.{between}
use Rattle.clip.specs.declared.Head.{Head}

-- width and height, two bytes each, high byte first; fcode, mode, quantiser, vector count, one byte each
abbrev pub head_of : List ℕ → Head
head_of s =
    record {
      width = get_or s 0 0 * 256 + get_or s 1 0;
      height = get_or s 2 0 * 256 + get_or s 3 0;
      fcode = get_or s 4 0;
      mode = get_or s 5 0;
      quantiser = get_or s 6 0;
      vectors = get_or s 7 0;
    }

-- 1, 2, 6, 10, 14: a whole header, in the order of the list. A side is refused by 6, and never by 4.
unfoldable pub head_reply : Head → Reply
head_reply h =
    unless (is_fcode h.fcode) Fcode
    (unless (is_mode h.mode) Mode
    (unless (between 1 176 h.width && between 1 144 h.height) SourceSide
    (unless (is_quantiser h.quantiser) Quantiser
    (unless (is_vector_count h.vectors) Choice (Ok tt)))))

-- 12 for a header cut short: the first n of its bytes s were there
abbrev pub header_reply : List ℕ → ℕ → Reply
header_reply s n = unless (leb 8 n) Length (head_reply (head_of s))

-- what the header says where it is not refused
unfoldable pub header_of : List ℕ → ℕ → Result Head Refusal
header_of s n = answer (header_reply s n) (head_of s)
