-- An entry's answer in its two cases. Assumes nothing.
use mathlib.Core.Path.{◌≡◌, refl, ap₂}
use Rattle.std.specs.Prelude.{Result, Ok, Err, OnOk}
use Rattle.refusal.specs.declared.Refusal.{Refusal}
use Rattle.refusal.specs.Reply.{Reply}
use Rattle.record.specs.declared.Record.{Record}
use Rattle.reader.specs.Handed.{Areas}
use Rattle.coding.specs.Coding.{areas_of}
use Rattle.macroblock.specs.Request.{Request, residual, quantising_in}
use Rattle.macroblock.specs.Answer.{Answer, answer_by, record_of}

abbrev pub given : Record → Areas → Answer
given g a = record { coded = Ok g; areas = a }

pub refused_answer : (P : Type 0) (q : Request) (w : Reply) (r : Result Record Refusal) (why : Refusal) → r ≡ Err why → Err why ≡ w
    → (record { coded = r; areas = q.areas } ≡ answer_by w q) × OnOk r P
unfolding answer_by
refused_answer P q w r why e f = rw (e, ← f) (refl, tt)

pub done_answer : (q : Request) (r : Reply) (g : Record) (a : Areas) → r ≡ Ok tt → g ≡ record_of q → a ≡ areas_of (quantising_in q) (residual q)
    → given g a ≡ answer_by r q
unfolding answer_by
done_answer q r g a e p t = rw e (ap₂ given p t)
