-- What turns a transform back (rules F12, F13, O5). A residual of another length than 64 has
-- no answer that an output area could be as long as, so it is 12 too.
use Rattle.std.specs.Prelude.{ℕ, ◌&&◌, List, eqb, ℤ, pos, negsuc, length, Ok}
use Rattle.refusal.specs.declared.Refusal.TheVariants.{Length, Range}
use Rattle.refusal.specs.Reply.{Reply, unless, and_then}
use Rattle.refusal.specs.Test.{all_in_range}

-- of a residual, and an output area of n places: lengths of 64, then each residual in -255..255
unfoldable pub dct_reply : List ℤ → ℕ → Reply
dct_reply r n = and_then (unless (eqb (length r) 64 && eqb n 64) Length (Ok tt)) (unless (all_in_range (negsuc 254) (pos 255) r) Range (Ok tt))
