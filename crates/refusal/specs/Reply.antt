-- Replies: what a list of refusals is written with, and what a reply leaves in lent memory.
use Rattle.std.specs.Prelude.{Bool, true, false, Result, Ok, Err}
use Rattle.refusal.specs.declared.Refusal.{Refusal}

-- nothing, or why a call is refused
abbrev pub Reply : Type 0
Reply = Result Unit Refusal

-- the first test that fails decides
abbrev pub unless : Bool → Refusal → Reply → Reply
unless true why next = next
unless false why next = Err why

abbrev pub and_then : {S T : Type 0} → Result S Refusal → Result T Refusal → Result T Refusal
and_then (Ok _) next = next
and_then (Err why) next = Err why

-- what is answered where nothing is refused
abbrev pub answer : {T : Type 0} → Reply → T → Result T Refusal
answer reply value = and_then reply (Ok value)

-- an answer that is refused by a later list too
abbrev pub also : {T : Type 0} → Result T Refusal → Reply → Result T Refusal
also (Ok value) reply = answer reply value
also (Err why) reply = Err why

-- what stands where the work is done, and what where it is refused
abbrev pub done {ℓ} : {T : Type 0} {X : Type ℓ} → Result T Refusal → X → X → X
done (Ok _) new old = new
done (Err why) new old = old

-- the value of an answer as it is written into lent memory, and what stands there where it is refused
abbrev pub written : {T X : Type 0} → Result T Refusal → (T → X) → X → X
written (Ok value) form old = form value
written (Err why) form old = old

abbrev pub value_or : {T : Type 0} → Result T Refusal → T → T
value_or answer old = written answer (λ value. value) old
