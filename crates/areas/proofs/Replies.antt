-- What a reply of two areas tells. Assumes nothing.
use Prim.Native.Nat.{ℕ}
use mathlib.Core.Bool.{Bool, ◌&&◌}
use mathlib.Core.Path.{◌≡◌, ap, ◌∙◌}
use lib.Dec.{eqb}
use borrow.Author.Tests.{eqb-true}
use Rattle.std.specs.Prelude.{Result, Ok, Err}
use Rattle.refusal.specs.declared.Refusal.{Refusal}
use Rattle.refusal.specs.declared.Refusal.TheVariants.{Length}
use Rattle.refusal.specs.Reply.{Reply, unless, and_then}
use Rattle.refusal.proofs.Replies.{not_done, unless-done}
use Rattle.refusal.proofs.Tests.{and_left, and_right}

-- it is made of these parts
pub areas_reply : {T : Type 0} (searched : Result T Refusal) (reply areas : Reply) (lengths good : Bool) → reply ≡ and_then searched areas
    → areas ≡ unless lengths Length (Ok tt) → lengths ≡ good → reply ≡ and_then searched (unless good Length (Ok tt))
areas_reply searched reply areas lengths good e f g = e ∙ ap (and_then searched) (f ∙ ap (λ (b : Bool). unless b Length (Ok tt)) g)

-- where it is Ok, both areas are as long as their answers
pub areas-done : (searched : Reply) (a m b n : ℕ) → and_then searched (unless (eqb a m && eqb b n) Length (Ok tt)) ≡ Ok tt → (a ≡ m) × (b ≡ n)
areas-done (Ok _) a m b n e =
    let good = unless-done (eqb a m && eqb b n) Length (Ok tt) e in
    (eqb-true a m (and_left (eqb a m) (eqb b n) good), eqb-true b n (and_right (eqb a m) (eqb b n) good))
areas-done (Err why) a m b n e = not_done why e
