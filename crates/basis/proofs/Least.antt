-- Laws of the first entry of least cost of a list: the search that keeps the best so far finds it, and there is no other.
-- Assumes nothing.
use mathlib.Core.Path.{◌≡◌, refl, sym, ap, ◌∙◌}
use mathlib.Core.Bool.{Bool, true, false, cond}
use mathlib.Core.List.{List, [], ◌∷◌, foldl}
use Prim.Native.Nat.{ℕ, zero, suc, ◌≤◌, ◌<◌}
use native.Mathlib.Omega.{arith}
use borrow.Author.Tests.{ltb-true, ltb-false, le-leb, lt-leb}
use lib.Dec.{ltb}
use lib.ListN.{length, get_or}
use Rattle.basis.specs.Least.{better, best, first_at_most, best_place, FirstLeast}
use Rattle.basis.proofs.Case.{then, else}

module _ {A : Type 0} (cost : A → ℕ) where
  -- a smaller entry x takes the place of a
  later : (a x : A) (l : List A) (r : A) → cost x < cost a → FirstLeast cost (x ∷ l) r → FirstLeast cost (a ∷ x ∷ l) r
  later a x l r h f = record { place = suc f.place; inside = omega (arith, f.inside); here = f.here; least = least; before = before }
    where
      top : cost r ≤ cost x
      top = f.least 0 (omega arith)

      least : (j : ℕ) → j < length (a ∷ x ∷ l) → cost r ≤ cost (get_or (a ∷ x ∷ l) j r)
      least zero p = omega (arith, top)
      least (suc j) p = f.least j (omega arith)

      before : (j : ℕ) → j < suc f.place → cost r < cost (get_or (a ∷ x ∷ l) j r)
      before zero p = omega (arith, top)
      before (suc j) p = f.before j (omega arith)

  -- an entry x that is no smaller than a is passed over
  passed : (a x : A) (l : List A) (r : A) → cost a ≤ cost x → FirstLeast cost (a ∷ l) r → FirstLeast cost (a ∷ x ∷ l) r
  passed a x l r h f = at f.place f.inside f.here f.before
    where
      top : cost r ≤ cost a
      top = f.least 0 (omega arith)

      least : (j : ℕ) → j < length (a ∷ x ∷ l) → cost r ≤ cost (get_or (a ∷ x ∷ l) j r)
      least zero p = top
      least (suc zero) p = omega (arith, top)
      least (suc (suc j)) p = f.least (suc j) (omega arith)

      at : (k : ℕ) → k < length (a ∷ l) → get_or (a ∷ l) k r ≡ r → ((j : ℕ) → j < k → cost r < cost (get_or (a ∷ l) j r)) → FirstLeast cost (a ∷ x ∷ l) r
      at zero i e b = record { place = zero; inside = omega arith; here = e; least = least; before = λ j p. absurd (none j p) }
        where
          none : (j : ℕ) → j < zero → ⊥
          none j p = omega arith
      at (suc k) i e b = record { place = suc (suc k); inside = omega arith; here = e; least = least; before = before }
        where
          first : cost r < cost a
          first = b 0 (omega arith)

          before : (j : ℕ) → j < suc (suc k) → cost r < cost (get_or (a ∷ x ∷ l) j r)
          before zero p = first
          before (suc zero) p = omega (arith, first)
          before (suc (suc j)) p = b (suc j) (omega arith)

  step : (a x : A) (l : List A) (t : Bool) → ltb (cost x) (cost a) ≡ t
      → FirstLeast cost (x ∷ l) (foldl (better cost) x l) → FirstLeast cost (a ∷ l) (foldl (better cost) a l)
      → FirstLeast cost (a ∷ x ∷ l) (foldl (better cost) (cond t x a) l)
  step a x l true e won lost = later a x l _ (ltb-true _ _ e) won
  step a x l false e won lost = passed a x l _ (ltb-false _ _ e) lost

  -- the search from a over l finds the first entry of least cost of a ∷ l
  pub first_of_least : (l : List A) (a : A) → FirstLeast cost (a ∷ l) (foldl (better cost) a l)
  unfolding better
  first_of_least [] a = record { place = zero; inside = omega arith; here = refl; least = least; before = λ j p. absurd (none j p) }
    where
      none : (j : ℕ) → j < zero → ⊥
      none j p = omega arith

      least : (j : ℕ) → j < suc zero → cost a ≤ cost (get_or (a ∷ []) j a)
      least zero p = omega arith
      least (suc j) p = absurd (none j (omega arith))
  first_of_least (x ∷ l) a = step a x l (ltb (cost x) (cost a)) refl (first_of_least l x) (first_of_least l a)

module _ {A : Type 0} (cost : A → ℕ) (first : A) where
  -- THE LAW of every list that is searched
  pub best_first : (l : List A) → FirstLeast cost (first ∷ l) (best cost first l)
  unfolding best
  best_first l = first_of_least cost l first

-- an index inside a list reads no default
get_or_any : {A : Type 0} (l : List A) (i : ℕ) (a b : A) → i < length l → get_or l i a ≡ get_or l i b
get_or_any [] i a b h = absurd (none h)
  where
    none : i < 0 → ⊥
    none p = omega arith
get_or_any (x ∷ l) zero a b h = refl
get_or_any (x ∷ l) (suc i) a b h = get_or_any l i a b (omega arith)

module _ {A : Type 0} (cost : A → ℕ) (l : List A) where
  -- two firsts of least stand at one place
  order : (r s : A) (f : FirstLeast cost l r) (g : FirstLeast cost l s) → f.place < g.place → ⊥
  order r s f g h =
      let e : cost (get_or l f.place s) ≡ cost r = ap cost (get_or_any l f.place s r f.inside ∙ f.here) in
      let d : cost (get_or l g.place r) ≡ cost s = ap cost (get_or_any l g.place r s g.inside ∙ g.here) in
      omega (arith, g.before f.place h, f.least g.place g.inside, e, d)

  -- a list has one first of least
  pub first_unique : (r s : A) → FirstLeast cost l r → FirstLeast cost l s → r ≡ s
  first_unique r s f g =
      let p : f.place ≡ g.place = same (ltb f.place g.place) (ltb g.place f.place) refl refl in
      sym f.here ∙ ap (λ (i : ℕ). get_or l i r) p ∙ get_or_any l g.place r s g.inside ∙ g.here
    where
      same : (t u : Bool) → ltb f.place g.place ≡ t → ltb g.place f.place ≡ u → f.place ≡ g.place
      same true u d e = absurd (order r s f g (ltb-true _ _ d))
      same false true d e = absurd (order s r g f (ltb-true _ _ e))
      same false false d e = omega (arith, ltb-false f.place g.place d, ltb-false g.place f.place e)

  -- For the reader: however often an entry is repeated, `place` is the first index that has it
  pub no_earlier : (r : A) (f : FirstLeast cost l r) (j : ℕ) → j < f.place → get_or l j r ≡ r → ⊥
  no_earlier r f j h e = omega (arith, f.before j h, ap cost e)

module _ {A : Type 0} (cost : A → ℕ) where
  -- a place inside l that costs at most c, where each before it costs more, is the first of those
  first_at : (c : ℕ) (l : List A) (k : ℕ) (d : A) → k < length l → cost (get_or l k d) ≤ c
      → ((j : ℕ) → j < k → c < cost (get_or l j d)) → first_at_most cost c l ≡ k
  unfolding first_at_most
  first_at c [] k d h e b = absurd (none h)
    where
      none : k < 0 → ⊥
      none p = omega arith
  first_at c (a ∷ l) zero d h e b = then _ _ _ (le-leb (cost a) c e)
  first_at c (a ∷ l) (suc k) d h e b =
      else _ _ _ (lt-leb (cost a) c (b 0 (omega arith)))
      ∙ ap suc (first_at c l k d (omega arith) e (λ j p. b (suc j) (omega arith)))

  -- the first place of l that costs no more than its first of least is that entry's own
  pub place_is : (l : List A) (r : A) (f : FirstLeast cost l r) → first_at_most cost (cost r) l ≡ f.place
  place_is l r f = first_at (cost r) l f.place r f.inside (omega (arith, ap cost f.here)) f.before

  -- For a caller that says where a winner came from: `best_place` is the place of the best that every search finds
  pub best-place : (first : A) (l : List A) → best_place cost first l ≡ (best_first cost first l).place
  best-place first l = place_is (first ∷ l) (best cost first l) (best_first cost first l)
