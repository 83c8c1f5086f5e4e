-- What holds of a residual's entries that are not refused. Assumes nothing.
use Prim.Native.Nat.{ℕ}
use native.Mathlib.Omega.{arith}
use Rattle.std.proofs.lemmas.Bool.Decides.{nat_tests}
use mathlib.Core.List.{List}
use mathlib.Core.Path.{◌≡◌}
use lib.IntN.{ℤ, pos, negsuc}
use lib.ListN.{length}
use Rattle.std.specs.Prelude.{true, Ok}
use Rattle.refusal.specs.Test.{in_range, all_in_range}
use Rattle.refusal.proofs.Every.{every_at, all_in_range_lem}
use Rattle.plane.specs.declared.SourceSize.{SourceSize}
use Rattle.plane.specs.declared.MacroblockPlace.{MacroblockPlace}
use Rattle.plane.specs.Samples.{samples}
use Rattle.coding.specs.Coding.{Quantising}
use Rattle.coding.specs.Residual.{ResidualRange}
use Rattle.coding.specs.Told.{CodingAccepted, ResidualAccepted}
use Rattle.coding.specs.Reply.{residual_reply, coding_reply}

pub residual_accepted : (size : SourceSize) (y cb cr : ℕ) (place : MacroblockPlace) (py pcb pcr : List ℕ) (area : ℕ)
    → residual_reply size y cb cr place (length py) (length pcb) (length pcr) area ≡ Ok tt
    → ResidualAccepted size y cb cr place (samples py pcb pcr) area
unfolding residual_reply
residual_accepted size y cb cr place py pcb pcr area e = grind (arith, nat_tests)

-- and back
pub residual_ready : (size : SourceSize) (y cb cr : ℕ) (place : MacroblockPlace) (py pcb pcr : List ℕ) (area : ℕ)
    → ResidualAccepted size y cb cr place (samples py pcb pcr) area
    → residual_reply size y cb cr place (length py) (length pcb) (length pcr) area ≡ Ok tt
unfolding residual_reply
residual_ready size y cb cr place py pcb pcr area c = grind (arith, nat_tests)

small : (n : ℕ) (residual : List ℤ) → length residual ≡ n → all_in_range (negsuc 254) (pos 255) residual ≡ true → ResidualRange n residual
small n residual e h =
    record { at = λ i l. every_at (in_range (negsuc 254) (pos 255)) residual i (pos 0) h (omega arith) }

pub coding_accepted : (n : ℕ) (residual : List ℤ) (by : Quantising) (lasts runs levels : ℕ)
    → coding_reply n residual by lasts runs levels ≡ Ok tt → CodingAccepted n residual by lasts runs levels
unfolding coding_reply
coding_accepted n residual by lasts runs levels e = grind (arith, nat_tests, small)

-- and back
pub coding_ready : (n : ℕ) (residual : List ℤ) (by : Quantising) (lasts runs levels : ℕ)
    → CodingAccepted n residual by lasts runs levels → coding_reply n residual by lasts runs levels ≡ Ok tt
unfolding coding_reply
coding_ready n residual by lasts runs levels c = grind (arith, nat_tests, all_in_range_lem)
