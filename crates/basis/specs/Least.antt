-- The first entry of least cost of a list, its place there, and lists that grow around the best so far: over any cost and any entries.
use Rattle.std.specs.Prelude.{◌≡◌, cond, ℕ, zero, suc, ◌≤◌, ◌<◌, leb, ltb, length, get_or}
use mathlib.Core.List.{List, [], ◌∷◌, ◌++◌, foldl}

module _ {A : Type 0} (cost : A → ℕ) where
  -- of the best so far and an entry, the entry only where its cost is strictly smaller
  unfoldable pub better : A → A → A
  better b a = cond (ltb (cost a) (cost b)) a b

  -- the best of first ∷ l
  unfoldable pub best : A → List A → A
  best first l = foldl better first l

  -- the first place of l, counted from 0, whose cost is at most c: past the last where there is none
  unfoldable pub first_at_most : ℕ → List A → ℕ
  first_at_most c [] = 0
  first_at_most c (a ∷ l) = cond (leb (cost a) c) 0 (suc (first_at_most c l))

  -- where in first ∷ l its best stands first
  abbrev pub best_place : A → List A → ℕ
  best_place first l = first_at_most (cost (best first l)) (first ∷ l)

  -- n pieces, rows or rings, listed after l, each made from the best so far
  unfoldable pub grown : A → (A → ℕ → List A) → List A → ℕ → List A
  grown first piece l zero = l
  grown first piece l (suc n) = grown first piece l n ++ piece (best first (grown first piece l n)) n

  -- r stands in l at its first place, no entry of l costs less, and each entry before that place costs more
  pub record FirstLeast (l : List A) (r : A) : Type 0 where
    pub place : ℕ
    pub inside : place < length l
    pub here : get_or l place r ≡ r
    pub least : (j : ℕ) → j < length l → cost r ≤ cost (get_or l j r)
    pub before : (j : ℕ) → j < place → cost r < cost (get_or l j r)
