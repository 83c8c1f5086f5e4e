-- Areas that are written place by place, from the first to the last. Assumes nothing.
use Prim.Native.Nat.{ℕ, suc}
use native.Mathlib.Omega.{arith}
use mathlib.Core.List.{List, [], ◌∷◌}
use mathlib.Core.Path.{◌≡◌, refl, ap, ◌∙◌}
use lib.ListN.{length, get_or, set}
use Rattle.basis.specs.Lists.{tabulate}
use Rattle.basis.proofs.Lists.{tabulate_same}

module _ {A : Type 0} where
  -- these elements, stored from place k on
  abbrev pub stored : ℕ → List A → List A → List A
  stored k [] l = l
  stored k (a ∷ vs) l = stored (suc k) vs (set l k a)

  stored_behind : (k : ℕ) (vs l : List A) (x : A) → stored (suc k) vs (x ∷ l) ≡ x ∷ stored k vs l
  stored_behind k [] l x = refl
  stored_behind k (a ∷ vs) l x = stored_behind (suc k) vs (set l k a) x

  -- stored into an area of their own length they are all of it
  pub stored_all : (vs l : List A) → length l ≡ length vs → stored 0 vs l ≡ vs
  stored_all [] [] h = refl
  stored_all [] (x ∷ l) h = absurd (none h)
    where
      none : length (x ∷ l) ≡ 0 → ⊥
      none p = omega arith
  stored_all (a ∷ vs) [] h = absurd (none h)
    where
      none : 0 ≡ length (a ∷ vs) → ⊥
      none p = omega arith
  stored_all (a ∷ vs) (x ∷ l) h =
      stored_behind 0 vs l a ∙ ap (λ (t : List A). a ∷ t) (stored_all vs l (omega arith))

  -- four elements, one after the other
  pub four_elements : (l : List A) (d : A) → length l ≡ 4 → get_or l 0 d ∷ get_or l 1 d ∷ get_or l 2 d ∷ get_or l 3 d ∷ [] ≡ l
  unfolding tabulate
  four_elements l d h = tabulate_same 4 l d h
