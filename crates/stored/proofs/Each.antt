-- What a loop over an area knows after each turn. Assumes nothing.
use Prim.Native.Nat.{ℕ, ◌+◌}
use native.Mathlib.Numerals.{add-one}
use mathlib.Core.Bool.{Bool, ◌&&◌}
use mathlib.Core.Path.{◌≡◌, refl, sym, ap, ap₂, ◌∙◌}
use Rattle.stored.specs.Same.{up_to}

pub up_none : (start : Bool) (p : ℕ → Bool) → start ≡ up_to start p 0
unfolding up_to
up_none start p = refl

pub up_more : (start : Bool) (p : ℕ → Bool) (n : ℕ) (before test after : Bool)
    → before ≡ up_to start p n → test ≡ p n → after ≡ (before && test) → after ≡ up_to start p (n + 1)
unfolding up_to
up_more start p n before test after b t e =
    e ∙ ap₂ (λ (x y : Bool). x && y) b t ∙ ap (up_to start p) (sym (add-one n))
