-- What the tests of a double against 0 and 4096 tell of its rounded_size and its coefficient. Assumes nothing.
use mathlib.Core.Path.{◌≡◌, refl, sym, ap, ◌∙◌, subst}
use mathlib.Core.Logic.{inl, inr}
use mathlib.Core.Bool.{Bool, true, false, cond, ◌&&◌, ◌||◌, true≢false}
use Prim.Native.Nat.{ℕ, ◌+◌, ◌*◌, ◌<◌, ◌≤◌, min}
use native.Mathlib.Nat.{le_refl, eq-or-lt_of_le, div-eq_of_lt}
use native.Mathlib.Omega.{arith}
use borrow.Author.Tests.{ltb-true, ltb-false, lt-ltb, le-ltb, eq-eqb}
use lib.Dec.{ltb, eqb}
use lib.IntN.{pos, neg_ℤ}
use lib.Ieee.{Float, nan, inf, fin, up, down, lt, le, neg}
use lib.Ieee.Fits.{down_pos}
use Rattle.fdct.specs.Double.{zero_double}
use Rattle.fdct.specs.Rounding.{nearest_up, rounded_size, negative, coefficient_of}
use Rattle.fdct.specs.Told.{cut_size, sized}
use Rattle.fdct.proofs.Cuts.{cut_size_lem}

-- 4096
abbrev pub top : Float
top = fin false 1 (pos 12)

pub none : (n d : ℕ) → 0 < d → n ≡ 0 → nearest_up n d ≡ 0
none n d D z = div-eq_of_lt (omega arith)

split : (a b : ℕ) → a ≤ b → (ltb a b || (eqb a b && true)) ≡ true
split a b h = elim (eq-or-lt_of_le h) [
  | inl p ↦ subst (λ (z : ℕ). (ltb a z || (eqb a z && true)) ≡ true) p (simp (le-ltb a a (le_refl a), eq-eqb a a refl))
  | inr q ↦ simp (lt-ltb a b q)
]

-- ---- the sign
same_magnitude : (x : Float) → rounded_size (neg x) ≡ rounded_size x
unfolding neg rounded_size
same_magnitude nan = refl
same_magnitude (inf s) = refl
same_magnitude (fin s m e) = refl

pub sized_magnitude : (x : Float) → rounded_size (sized x) ≡ rounded_size x
sized_magnitude x = go (lt x zero_double)
  where
    go : (b : Bool) → rounded_size (cond b (neg x) x) ≡ rounded_size x
    go true = same_magnitude x
    go false = refl

turned : (x : Float) → lt x zero_double ≡ true → le zero_double (neg x) ≡ true
unfolding neg le
turned nan t = absurd (true≢false (sym t))
turned (inf true) t = refl
turned (inf false) t = absurd (true≢false (sym t))
turned (fin true m e) t = split (0 * down e) (m * up e * 1) (omega arith)
turned (fin false m e) t = let k = ltb-true (m * up e * 1) (0 * down e) t in absurd (omega arith)

-- not below zero: a zero with a minus sign counts so
kept : (x : Float) → lt x zero_double ≡ false → lt x top ≡ true → le zero_double x ≡ true
unfolding le lt
kept nan t h = absurd (true≢false (sym h))
kept (inf true) t h = absurd (true≢false t)
kept (inf false) t h = refl
kept (fin true m e) t h =
    let k = ltb-false 0 (m * up e * 1 + 0 * down e) t in
    simp (eq-eqb (0 * down e) (m * up e * 1) (omega arith), eq-eqb (0 * down e) 0 (omega arith))
kept (fin false m e) t h = split (0 * down e) (m * up e * 1) (omega arith)

pub sized_up : (x : Float) → lt (sized x) top ≡ true → le zero_double (sized x) ≡ true
sized_up x = go (lt x zero_double) refl
  where
    go : (b : Bool) → lt x zero_double ≡ b → lt (cond b (neg x) x) top ≡ true → le zero_double (cond b (neg x) x) ≡ true
    go true t h = turned x t
    go false t h = kept x t h

-- ---- the coefficient, from the sign's test and the rounded_size
cut : (x : Float) → coefficient_of x ≡ cut_size (negative x) (rounded_size x)
unfolding coefficient_of
cut x = cut_size_lem (negative x) (rounded_size x)

under : (x : Float) → lt x zero_double ≡ true → cut_size (negative x) (rounded_size x) ≡ neg_ℤ (pos (min (rounded_size x) 2048))
unfolding rounded_size lt
under nan t = absurd (true≢false (sym t))
under (inf true) t = refl
under (inf false) t = absurd (true≢false (sym t))
under (fin true m e) t = refl
under (fin false m e) t = let h = ltb-true (m * up e * 1) (0 * down e) t in absurd (omega arith)

over : (x : Float) → lt x zero_double ≡ false → cut_size (negative x) (rounded_size x) ≡ pos (min (rounded_size x) 2047)
unfolding rounded_size lt
over nan t = refl
over (inf true) t = absurd (true≢false t)
over (inf false) t = refl
over (fin true m e) t =
    let k = ltb-false 0 (m * up e * 1 + 0 * down e) t in
    let n = none (m * up e) (down e) (down_pos e) (omega arith) in
    ap (λ (j : ℕ). neg_ℤ (pos (min j 2048))) n ∙ sym (ap (λ (j : ℕ). pos (min j 2047)) n)
over (fin false m e) t = refl

pub by_sign : (x : Float) → cut_size (lt x zero_double) (min (rounded_size x) 4096) ≡ coefficient_of x
by_sign x = go (lt x zero_double) refl
  where
    go : (b : Bool) → lt x zero_double ≡ b → cut_size b (min (rounded_size x) 4096) ≡ coefficient_of x
    go true t = ap (λ (n : ℕ). neg_ℤ (pos n)) (let e : min (min (rounded_size x) 4096) 2048 ≡ min (rounded_size x) 2048 = omega arith in e) ∙ sym (under x t) ∙ sym (cut x)
    go false t = ap pos (let e : min (min (rounded_size x) 4096) 2047 ≡ min (rounded_size x) 2047 = omega arith in e) ∙ sym (over x t) ∙ sym (cut x)
