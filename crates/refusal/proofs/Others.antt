-- Replies in a row, none of which has the number k. Assumes nothing.
use Prim.Native.Nat.{ℕ, ◌<◌}
use native.Mathlib.Omega.{arith}
use mathlib.Core.Bool.{Bool, true, false}
use mathlib.Core.Path.{◌≡◌}
use Rattle.std.specs.Prelude.{Ok, Err}
use Rattle.refusal.specs.declared.Refusal.{Refusal}
use Rattle.refusal.specs.Number.{number_of, code_of}
use Rattle.refusal.specs.Reply.{Reply, unless, and_then}

-- a reply of another number
pub record Other (k : ℕ) (r : Reply) : Type 0 where
  pub is_not : code_of r ≡ k → ⊥

pub done_other : {k : ℕ} → 0 < k → Other k (Ok tt)
done_other h = record { is_not = λ e. omega arith }

pub unless_other : {k : ℕ} (t : Bool) (why : Refusal) {n : Reply} → (number_of why ≡ k → ⊥) → Other k n → Other k (unless t why n)
unless_other true why f g = g
unless_other false why f g = record { is_not = f }

pub and_then_other : {k : ℕ} (a : Reply) {b : Reply} → Other k a → Other k b → Other k (and_then a b)
and_then_other (Ok _) f g = g
and_then_other (Err why) f g = f
