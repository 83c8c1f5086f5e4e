-- The three areas of a block are 64 long. Assumes nothing.
use Prim.Native.Nat.{ℕ, zero, suc, ◌+◌, ◌≤◌}
use native.Mathlib.Omega.{arith}
use mathlib.Core.List.{List, [], ◌∷◌, map}
use mathlib.Core.Path.{◌≡◌, refl, ap, ◌∙◌}
use lib.IntN.{ℤ, pos}
use lib.ListN.{length, replicate, length-append, length-map, length-replicate}
use Rattle.basis.proofs.Areas.{pad_length}
use Rattle.scan.specs.Event.{Event, events_of, marks, lasts_area, runs_area, levels_area}
use Rattle.scan.proofs.Writing.{events_length}

marks-length : (n : ℕ) → length (marks n) ≡ n
marks-length zero = refl
marks-length (suc n) = length-append (replicate n 0) (1 ∷ []) ∙ ap (λ (m : ℕ). m + 1) (length-replicate n 0) ∙ more
  where
    more : n + 1 ≡ suc n
    more = omega arith

module _ (levels : List ℤ) (full : length levels ≡ 64) where
  few : length (events_of levels) ≤ 64
  few = omega (arith, events_length 0 levels)

  pub lasts_length : length (lasts_area levels) ≡ 64
  unfolding lasts_area
  lasts_length = pad_length 64 0 (marks (length (events_of levels))) (omega (arith, few, marks-length (length (events_of levels))))

  pub runs_length : length (runs_area levels) ≡ 64
  unfolding runs_area
  runs_length =
      pad_length 64 0 (map (λ (e : Event). e.run) (events_of levels)) (omega (arith, few, length-map (events_of levels) (λ (e : Event). e.run)))

  pub values_length : length (levels_area levels) ≡ 64
  unfolding levels_area
  values_length =
      pad_length 64 (pos 0) (map (λ (e : Event). e.level) (events_of levels)) (omega (arith, few, length-map (events_of levels) (λ (e : Event). e.level)))
