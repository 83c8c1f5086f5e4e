-- 64 places that a call has filled, each by what it is to hold. Assumes nothing.
use Prim.Native.Nat.{ℕ, ◌<◌}
use mathlib.Core.List.{List}
use mathlib.Core.Path.{◌≡◌, sym, ◌∙◌}
use lib.IntN.{ℤ, pos}
use lib.ListN.{length, get_or}
use Rattle.basis.specs.Lists.{tabulate}
use Rattle.basis.proofs.Lists.{tabulate_same, tabulate_cong}

pub filled_is : (f : ℕ → ℤ) (out : List ℤ) → length out ≡ 64 → ((i : ℕ) → i < 64 → get_or out i (pos 0) ≡ f i) → out ≡ tabulate 64 f
filled_is f out long each = sym (tabulate_same 64 out (pos 0) long) ∙ tabulate_cong 64 (λ i. get_or out i (pos 0)) f each
