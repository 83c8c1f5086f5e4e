-- What a search keeps is the best of its list, at its own cost: over any cost of displacements. Assumes nothing.
use Prim.Native.Nat.{ℕ, zero, suc, ◌+◌, ◌≤◌, ◌<◌}
use native.Mathlib.Numerals.{add-one}
use native.Mathlib.Omega.{arith}
use mathlib.Core.Bool.{Bool, true, false, cond}
use mathlib.Core.List.{List, [], ◌∷◌, ◌++◌, foldl, foldl-append}
use mathlib.Core.Path.{◌≡◌, refl, sym, ap, ap₂, ◌∙◌, subst}
use lib.Dec.{ltb}
use borrow.Author.Tests.{ltb-true, ltb-false}
use Rattle.basis.specs.Least.{better, best, grown}
use Rattle.basis.specs.Lists.{rows}
use Rattle.basis.proofs.Lists.{fold-rows}
use Rattle.record.specs.declared.MotionVector.{MotionVector}
use Rattle.record.specs.Zero.{zero_vector}
use Rattle.full_search.specs.declared.Scored.{Scored}
use Rattle.full_search.specs.Costs.{at_cost, consider}
use Rattle.full_search.specs.ToldKept.{kept_of, kept_rows, NoMoreThanZero}

-- a search over a list in pieces, one piece more
pub pieces_more : (cost : MotionVector → ℕ) (s b : Scored) (piece : ℕ → List MotionVector) (j : ℕ) {l : List MotionVector}
    → b ≡ kept_of cost s (rows j piece) → l ≡ piece j
    → kept_of cost b l ≡ kept_of cost s (rows (j + 1) piece)
pieces_more cost s b piece j e g = ap₂ (kept_of cost) e g ∙ sym (fold-rows (consider cost) s j piece)

-- n pieces more
pub pieces_on : (cost : MotionVector → ℕ) (s : Scored) (piece more : ℕ → List MotionVector) (j n : ℕ)
    → ((i : ℕ) → i < n → more i ≡ piece (j + i))
    → kept_of cost (kept_of cost s (rows j piece)) (rows n more) ≡ kept_of cost s (rows (j + n) piece)
unfolding rows
pieces_on cost s piece more j zero h = ap (λ (m : ℕ). kept_of cost s (rows m piece)) (none j)
  where
    none : (j : ℕ) → j ≡ j + 0
    none j = omega arith
pieces_on cost s piece more j (suc n) h =
    foldl-append (consider cost) (kept_of cost s (rows j piece)) (rows n more) (more n)
    ∙ pieces_more cost s _ piece (j + n) (pieces_on cost s piece more j n (λ i p. h i (omega arith))) (h n (omega arith))
    ∙ ap (λ (m : ℕ). kept_of cost s (rows m piece)) (next j n)
  where
    next : (j n : ℕ) → j + n + 1 ≡ j + suc n
    next j n = omega arith

module _ (cost : MotionVector → ℕ) where
  same : (l : List MotionVector) (a : MotionVector) → kept_of cost (at_cost cost a) l ≡ at_cost cost (foldl (better cost) a l)
  unfolding consider better
  same [] a = refl
  same (d ∷ l) a = step (ltb (cost d) (cost a)) (same l d) (same l a)
    where
      step : (t : Bool) → kept_of cost (at_cost cost d) l ≡ at_cost cost (foldl (better cost) d l)
          → kept_of cost (at_cost cost a) l ≡ at_cost cost (foldl (better cost) a l)
          → kept_of cost (cond t (at_cost cost d) (at_cost cost a)) l ≡ at_cost cost (foldl (better cost) (cond t d a) l)
      step true p q = p
      step false p q = q

  -- a search keeps the best
  pub search_best : (a : MotionVector) (l : List MotionVector) → kept_of cost (at_cost cost a) l ≡ at_cost cost (best cost a l)
  unfolding best
  search_best a l = same l a

  -- a search that goes on keeps the best of both lists
  pub search_more : (a : MotionVector) (l m : List MotionVector) → kept_of cost (at_cost cost (best cost a l)) m ≡ at_cost cost (best cost a (l ++ m))
  search_more a l m = rw (← search_best a l, ← foldl-append (consider cost) (at_cost cost a) l m) (search_best a (l ++ m))

  -- THE LAW: a search never raises the cost
  pub kept_falls : (l : List MotionVector) (s : Scored) → (kept_of cost s l).cost ≤ s.cost
  unfolding consider
  kept_falls [] s = omega arith
  kept_falls (d ∷ l) s = at (ltb (cost d) s.cost) refl (kept_falls l (at_cost cost d)) (kept_falls l s)
    where
      at : (t : Bool) → ltb (cost d) s.cost ≡ t → (kept_of cost (at_cost cost d) l).cost ≤ cost d → (kept_of cost s l).cost ≤ s.cost
          → (kept_of cost (cond t (at_cost cost d) s) l).cost ≤ s.cost
      at true e p q = omega (arith, ltb-true (cost d) s.cost e)
      at false e p q = q

  -- so what costs no more than zero does still does so
  pub stays_small : (l : List MotionVector) (s : Scored) → NoMoreThanZero cost s → NoMoreThanZero cost (kept_of cost s l)
  stays_small l s h = omega (arith, kept_falls l s)

  pub kept_small : (l : List MotionVector) (s b : Scored) → b ≡ kept_of cost s l → NoMoreThanZero cost s → NoMoreThanZero cost b
  kept_small l s b e h = subst (λ (b : Scored). NoMoreThanZero cost b) (sym e) (stays_small l s h)

  -- as zero itself does
  pub zero_small : (s : Scored) → s ≡ at_cost cost zero_vector → NoMoreThanZero cost s
  zero_small s e = subst (λ (b : Scored). NoMoreThanZero cost b) (sym e) (omega arith)

  -- a search whose cost did not fall kept its start
  pub kept-start : (l : List MotionVector) (s : Scored) → ltb (kept_of cost s l).cost s.cost ≡ false → kept_of cost s l ≡ s
  unfolding consider
  kept-start [] s h = refl
  kept-start (d ∷ l) s h = at (ltb (cost d) s.cost) refl h (kept-start l s)
    where
      no : {n : ℕ} → n ≤ cost d → cost d < s.cost → s.cost ≤ n → ⊥
      no p q r = omega arith

      at : (t : Bool) → ltb (cost d) s.cost ≡ t → ltb (kept_of cost (cond t (at_cost cost d) s) l).cost s.cost ≡ false
          → (ltb (kept_of cost s l).cost s.cost ≡ false → kept_of cost s l ≡ s)
          → kept_of cost (cond t (at_cost cost d) s) l ≡ s
      at true e k rest = absurd (no (kept_falls l (at_cost cost d)) (ltb-true (cost d) s.cost e) (ltb-false _ s.cost k))
      at false e k rest = rest k

  module _ (piece : MotionVector → ℕ → List MotionVector) where
    -- one more row
    pub kept_rows_more : (s : Scored) (n : ℕ)
        → kept_rows cost piece s (n + 1) ≡ kept_of cost (kept_rows cost piece s n) (piece (kept_rows cost piece s n).vector n)
    unfolding kept_rows
    kept_rows_more s n = rw add-one

    pub rows_small : (s : Scored) (n : ℕ) → NoMoreThanZero cost s → NoMoreThanZero cost (kept_rows cost piece s n)
    unfolding kept_rows
    rows_small s zero h = h
    rows_small s (suc n) h = stays_small (piece (kept_rows cost piece s n).vector n) (kept_rows cost piece s n) (rows_small s n h)

    -- rows that are made from the best so far keep the best of the list that grows so
    pub kept_rows-best : (a : MotionVector) (l : List MotionVector) (n : ℕ)
        → kept_rows cost piece (at_cost cost (best cost a l)) n ≡ at_cost cost (best cost a (grown cost a piece l n))
    unfolding kept_rows grown
    kept_rows-best a l zero = refl
    kept_rows-best a l (suc n) =
        let g = grown cost a piece l n in
        rw (kept_rows-best a l n) (search_more a g (piece (best cost a g) n))
