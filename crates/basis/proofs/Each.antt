-- What holds of each entry of a list, and hence of the best of it. Assumes nothing.
use mathlib.Core.Path.{subst}
use mathlib.Core.List.{List, [], ◌∷◌, ◌++◌}
use Prim.Native.Nat.{ℕ, zero, suc, ◌<◌}
use native.Mathlib.Omega.{arith}
use lib.ListN.{length, get_or}
use Rattle.basis.specs.Lists.{rows}
use Rattle.basis.specs.Least.{best, grown, FirstLeast}
use Rattle.basis.proofs.Least.{best_first}

module _ {A : Type 0} (P : A → Type 0) where
  unfoldable pub All : List A → Type 0
  All [] = Unit {0}
  All (a ∷ l) = P a × All l

  pub all_append : (l m : List A) → All l → All m → All (l ++ m)
  unfolding All
  all_append [] m p q = q
  all_append (d ∷ l) m p q = (p.0, all_append l m p.1 q)

  -- joined lists
  pub all_rows : (g : ℕ → List A) (n : ℕ) → ((k : ℕ) → k < n → All (g k)) → All (rows n g)
  unfolding rows All
  all_rows g zero h = tt
  all_rows g (suc n) h = all_append (rows n g) (g n) (all_rows g n (λ k p. h k (omega arith))) (h n (omega arith))

  pub all_at : (l : List A) (i : ℕ) (d : A) → i < length l → All l → P (get_or l i d)
  unfolding All
  all_at [] i d h q = absurd (none h)
    where
      none : i < 0 → ⊥
      none p = omega arith
  all_at (a ∷ l) zero d h q = q.0
  all_at (a ∷ l) (suc i) d h q = all_at l i d (omega arith) q.1

  -- the first of least is an entry, and so is the best
  pub first_all : (cost : A → ℕ) (l : List A) (r : A) → FirstLeast cost l r → All l → P r
  first_all cost l r f q = subst P f.here (all_at l f.place r f.inside q)

  pub best_all : (cost : A → ℕ) (a : A) (l : List A) → P a → All l → P (best cost a l)
  unfolding All
  best_all cost a l p q = first_all cost (a ∷ l) (best cost a l) (best_first cost a l) (p, q)

  -- a list that grows around the best so far
  pub all_grown : (cost : A → ℕ) (a : A) (piece : A → ℕ → List A) (l : List A) (n : ℕ) → P a → All l → ((c : A) (k : ℕ) → P c → All (piece c k))
      → All (grown cost a piece l n)
  unfolding grown
  all_grown cost a piece l zero p q h = q
  all_grown cost a piece l (suc n) p q h =
      let t = all_grown cost a piece l n p q h in
      all_append (grown cost a piece l n) _ t (h (best cost a (grown cost a piece l n)) n (best_all cost a (grown cost a piece l n) p t))
