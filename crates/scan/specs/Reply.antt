-- What turns a call back (rules F12 to F14, O5), and the answer on events.
use Rattle.refusal.specs.declared.Refusal.{Refusal}
use Rattle.std.specs.Prelude.{ℕ, ◌&&◌, List, eqb, ℤ, pos, negsuc, length, Result, Ok}
use Rattle.refusal.specs.declared.Refusal.TheVariants.{Length, Range, Choice}
use Rattle.refusal.specs.Reply.{Reply, answer, unless}
use Rattle.refusal.specs.Test.{between, all_in_range}
use Rattle.scan.specs.Event.{events_of}

-- of levels, a scan number, and an output area of n places
unfoldable pub scan_reply : List ℤ → ℕ → ℕ → Reply
scan_reply levels s n =
    unless (eqb (length levels) 64 && eqb n 64) Length
    (unless (all_in_range (negsuc 2046) (pos 2047) levels) Range
    (unless (between 0 2 s) Choice (Ok tt)))

-- of levels, and areas of a, b and c places
unfoldable pub events_reply : List ℤ → ℕ → ℕ → ℕ → Reply
events_reply levels a b c =
    unless (eqb (length levels) 64 && (eqb a 64 && (eqb b 64 && eqb c 64))) Length
    (unless (all_in_range (negsuc 2046) (pos 2047) levels) Range (Ok tt))

-- how many events there are
abbrev pub events_answer : Reply → List ℤ → Result ℕ Refusal
events_answer reply levels = answer reply (length (events_of levels))
