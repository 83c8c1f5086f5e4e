-- A place of the ring around c: the centre is passed over, any other is considered at its sum. Assumes nothing.
use Prim.Native.Nat.{ℕ}
use mathlib.Core.List.{[], ◌∷◌, foldl}
use mathlib.Core.Path.{◌≡◌, sym, ap, ◌∙◌}
use borrow.Author.Tests.{eq-eqb, ne_eqb}
use lib.Dec.{eqb}
use Rattle.basis.proofs.Case.{then, else}
use Rattle.record.specs.declared.MotionVector.{MotionVector}
use Rattle.full_search.specs.declared.Scored.{Scored}
use Rattle.full_search.specs.Costs.{consider}
use Rattle.search.specs.Sub.{neighbour, ring_at}

module _ (sum : MotionVector → ℕ) (fcode step : ℕ) (c : MotionVector) (n : ℕ) (b : Scored) where
  pub ring_pass : n ≡ 4 → b ≡ foldl (consider sum) b (ring_at fcode step c n)
  ring_pass h = sym (ap (foldl (consider sum) b) (then (eqb n 4) [] (neighbour fcode step c n ∷ []) (eq-eqb n 4 h)))

  pub ring_turn : (r : Scored) (v : MotionVector) (cost : ℕ) → (n ≡ 4 → ⊥) → v ≡ neighbour fcode step c n → cost ≡ sum v → r ≡ consider (λ _. cost) b v
      → r ≡ foldl (consider sum) b (ring_at fcode step c n)
  unfolding consider
  ring_turn r v cost h f k g =
      g ∙ ap (λ (m : ℕ). consider (λ _. m) b v) k ∙ ap (consider sum b) f
      ∙ sym (ap (foldl (consider sum) b) (else (eqb n 4) [] (neighbour fcode step c n ∷ []) (ne_eqb n 4 h)))
