-- A double clamped to -2,048..2,047, a NaN to 0, has the coefficient that it had, and a size that fits. Assumes nothing.
use mathlib.Core.Path.{◌≡◌, refl, sym, ap, ◌∙◌, subst}
use mathlib.Core.Bool.{Bool, true, false, cond, not, true≢false}
use Prim.Native.Nat.{ℕ, suc, ◌+◌, ◌*◌, ◌<◌, ◌≤◌, min}
use native.Mathlib.Nat.{le_trans, le_of_eq, le_of_suc-le-suc, le-div_iff_mul-le, div-lt_iff_lt-mul}
use native.Mathlib.Omega.{arith}
use borrow.Author.Tests.{ltb-true, ltb-false, lt-ltb}
use lib.Dec.{T, lit≤}
use lib.IntN.{pos, neg_ℤ, ◌-ℤ◌, +ℤ_idl}
use lib.Ieee.{Float, nan, inf, fin, up, down, lt, eq, ne, neg}
use lib.Ieee.Fits.{down_pos}
use lib.Ieee.Compare.{differs_from_itself}
use Rattle.fdct.specs.Double.{zero_double}
use Rattle.fdct.specs.Rounding.{nearest_up, rounded_size, coefficient_of}
use Rattle.fdct.specs.Told.{cut_size, sized, known, highest, lowest, not_above, not_below}
use Rattle.fdct.proofs.Signs.{top, none, by_sign}

-- z serves in the place of x
pub record Serves (x z : Float) : Type 0 where
  pub same : coefficient_of z ≡ coefficient_of x
  pub below_top : lt (sized z) top ≡ true
  pub most : rounded_size z ≤ 2048
  pub most_above : lt z zero_double ≡ false → rounded_size z ≤ 2047

at_least : (k n d : ℕ) → 0 < d → k * d ≤ n → k ≤ nearest_up n d
at_least k n d D h = (le-div_iff_mul-le {k = 2 * d} {x = k} {y = 2 * n + d} (omega arith)).1 (let r : k * (2 * d) ≤ 2 * n + d = omega arith in r)

at_most : (k n d : ℕ) → 0 < d → n < k * d → nearest_up n d ≤ k
at_most k n d D h = le_of_suc-le-suc ((div-lt_iff_lt-mul {k = 2 * d} {x = 2 * n + d} {y = suc k} (omega arith)).1 (let r : 2 * n + d < suc k * (2 * d) = omega arith in r))

-- ---- the ends
nothing : Serves nan zero_double
unfolding coefficient_of rounded_size lt neg
nothing = record { same = refl; below_top = refl; most = lit≤ tt; most_above = λ t. lit≤ tt }

size_above : (x : Float) → eq x x ≡ true → lt x highest ≡ false → (2047 ≤ rounded_size x) × (lt x zero_double ≡ false)
unfolding rounded_size lt eq
size_above nan k t = absurd (true≢false (sym k))
size_above (inf true) k t = absurd (true≢false t)
size_above (inf false) k t = (lit≤ tt, refl)
size_above (fin true m e) k t =
    let D = down_pos e in
    let h = ltb-false 0 (m * up e * 1 + 2047 * 1 * down e) t in
    absurd (omega arith)
size_above (fin false m e) k t =
    let D = down_pos e in
    let h = ltb-false (m * up e * 1) (2047 * 1 * down e) t in
    (at_least 2047 (m * up e) (down e) D (omega arith), borrow.Author.Tests.le-ltb (m * up e * 1) (0 * 1 * down e) (omega arith))

size_below : (x : Float) → lt x highest ≡ true → lt lowest x ≡ false → (2048 ≤ rounded_size x) × (lt x zero_double ≡ true)
unfolding rounded_size lt
size_below nan h t = absurd (true≢false (sym h))
size_below (inf true) h t = (lit≤ tt, refl)
size_below (inf false) h t = absurd (true≢false (sym h))
size_below (fin true m e) h t =
    let D = down_pos e in
    let k = ltb-false (m * up e * 1) (1 * 2048 * down e) t in
    (at_least 2048 (m * up e) (down e) D (omega arith), lt-ltb 0 (m * up e * 1 + 0 * 1 * down e) (omega arith))
size_below (fin false m e) h t =
    let D = down_pos e in
    let k = ltb-false 0 (1 * 2048 * down e + m * up e * 1) t in
    absurd (omega arith)

cut_by : (x : Float) (minus : Bool) (n : ℕ) → lt x zero_double ≡ minus → cut_size minus (min (rounded_size x) 4096) ≡ cut_size minus n → coefficient_of x ≡ cut_size minus n
cut_by x minus n t e = sym (by_sign x) ∙ ap (λ (b : Bool). cut_size b (min (rounded_size x) 4096)) t ∙ e

highest_serves : (x : Float) → eq x x ≡ true → lt x highest ≡ false → Serves x highest
unfolding coefficient_of rounded_size lt neg
highest_serves x k t =
    let s = size_above x k t in
    record {
      same = sym (cut_by x false 2047 s.1 (ap pos (let e : min (min (rounded_size x) 4096) 2047 ≡ min 2047 2047 = omega (arith, s.0) in e)));
      below_top = refl;
      most = lit≤ tt;
      most_above = λ u. lit≤ tt;
    }

lowest_serves : (x : Float) → lt x highest ≡ true → lt lowest x ≡ false → Serves x lowest
unfolding coefficient_of rounded_size lt neg
lowest_serves x h t =
    let s = size_below x h t in
    record {
      same = sym (cut_by x true 2048 s.1
          (ap (λ (n : ℕ). neg_ℤ (pos n)) (let e : min (min (rounded_size x) 4096) 2048 ≡ min 2048 2048 = omega (arith, s.0) in e)));
      below_top = refl;
      most = lit≤ tt;
      most_above = λ u. absurd (true≢false u);
    }

-- ---- between them
between : (x : Float) → lt x highest ≡ true → lt lowest x ≡ true → Serves x x
unfolding rounded_size lt neg
between nan h t = absurd (true≢false (sym h))
between (inf true) h t = absurd (true≢false (sym t))
between (inf false) h t = absurd (true≢false (sym h))
between (fin true m e) h t = record { same = refl; below_top = small (lt (fin true m e) zero_double); most = at_most 2048 (m * up e) (down e) D k'; most_above = zero_size }
  where
    D : 0 < down e
    D = down_pos e

    k : m * up e * 1 < 1 * 2048 * down e
    k = ltb-true (m * up e * 1) (1 * 2048 * down e) t

    k' : m * up e < 2048 * down e
    k' = omega (arith, k)

    small : (b : Bool) → lt (cond b (fin false m e) (fin true m e)) top ≡ true
    small true = lt-ltb (m * up e * 1) (1 * 4096 * down e) (omega (arith, k', D))
    small false = lt-ltb 0 (m * up e * 1 + 1 * 4096 * down e) (omega (arith, D))

    zero_size : lt (fin true m e) zero_double ≡ false → nearest_up (m * up e) (down e) ≤ 2047
    zero_size u =
        let z = ltb-false 0 (m * up e * 1 + 0 * 1 * down e) u in
        le_trans (le_of_eq (none (m * up e) (down e) D (omega (arith, z)))) (lit≤ tt)
between (fin false m e) h t = record { same = refl; below_top = small (lt (fin false m e) zero_double); most = le_trans (size_is) (lit≤ tt); most_above = λ u. size_is }
  where
    D : 0 < down e
    D = down_pos e

    k : m * up e * 1 < 2047 * 1 * down e
    k = ltb-true (m * up e * 1) (2047 * 1 * down e) h

    size_is : nearest_up (m * up e) (down e) ≤ 2047
    size_is = at_most 2047 (m * up e) (down e) D (omega (arith, k))

    small : (b : Bool) → lt (cond b (fin true m e) (fin false m e)) top ≡ true
    small true = lt-ltb 0 (m * up e * 1 + 1 * 4096 * down e) (omega (arith, D))
    small false = lt-ltb (m * up e * 1) (1 * 4096 * down e) (omega (arith, k, D))

-- ---- all
pub serves : (x : Float) → Serves x (not_below (not_above (known x)))
unfolding ne lt
serves x = by_known (eq x x) refl
  where
    by_low : (b : Bool) → lt lowest x ≡ b → lt x highest ≡ true → Serves x (cond b x lowest)
    by_low true t h = between x h t
    by_low false t h = lowest_serves x h t

    by_high : (b : Bool) → lt x highest ≡ b → eq x x ≡ true → Serves x (not_below (cond b x highest))
    by_high true h k = by_low (lt lowest x) refl h
    by_high false h k = highest_serves x k h

    by_known : (b : Bool) → eq x x ≡ b → Serves x (not_below (not_above (cond b x zero_double)))
    by_known true k = by_high (lt x highest) refl k
    by_known false k =
        let is : x ≡ nan = differs_from_itself x (subst (λ (b : Bool). T (not b)) (sym k) tt) in
        subst (λ (y : Float). Serves y (not_below (not_above zero_double))) (sym is) nothing

-- the size with its sign is the coefficient
pub signed_size : (x z : Float) → Serves x z → cond (lt z zero_double) (pos 0 -ℤ pos (rounded_size z)) (pos (rounded_size z)) ≡ coefficient_of x
signed_size x z s = go (lt z zero_double) refl ∙ by_sign z ∙ s.same
  where
    go : (b : Bool) → lt z zero_double ≡ b → cond b (pos 0 -ℤ pos (rounded_size z)) (pos (rounded_size z)) ≡ cut_size (lt z zero_double) (min (rounded_size z) 4096)
    go true t =
        +ℤ_idl (neg_ℤ (pos (rounded_size z)))
        ∙ ap (λ (n : ℕ). neg_ℤ (pos n)) (let e : rounded_size z ≡ min (min (rounded_size z) 4096) 2048 = omega (arith, s.most) in e)
        ∙ sym (ap (λ (b : Bool). cut_size b (min (rounded_size z) 4096)) t)
    go false t =
        ap pos (let e : rounded_size z ≡ min (min (rounded_size z) 4096) 2047 = omega (arith, s.most_above t) in e)
        ∙ sym (ap (λ (b : Bool). cut_size b (min (rounded_size z) 4096)) t)
