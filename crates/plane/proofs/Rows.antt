-- Rows of a plane, as the code copies them. Assumes nothing.
use Prim.Native.Nat.{ℕ, ◌+◌, ◌-◌, ◌*◌, ◌<◌, ◌≤◌, min}
use native.Mathlib.Omega.{arith}
use mathlib.Core.Path.{◌≡◌, refl, sym, ap, ◌∙◌}
use mathlib.Core.List.{List, ◌++◌}
use lib.IntN.{ℤ, pos, ◌+ℤ◌}
use lib.ListN.{length, get_or, take, drop}
use Rattle.basis.specs.Parts.{above, below}
use Rattle.basis.specs.Lists.{tabulate}
use Rattle.basis.proofs.Lists.{tabulate_two, get_or-tabulate}
use Rattle.basis.proofs.Parts.{sides, above-add}
use Rattle.basis.proofs.Slices.{part_is, part_at, part_length, part_tabulate}
use Rattle.plane.specs.Plane.{Plane, clamp_to, sample_at}
use Rattle.plane.specs.ToldHeld.{Held, clamped_in, column_at, ColumnsIn}
use Rattle.plane.proofs.Inside.{row_in_plane}

-- n samples that all lie in the row, as the part `&row[a..a + n]` has them
pub straight : (row : List ℕ) (x : ℤ) (a n : ℕ) → a ≡ above x → below x ≡ 0 → a + n ≤ length row
    → take (a + n - a) (drop a row) ≡ tabulate n (clamped_in row x)
straight row x a n e z h = part_tabulate row a n (clamped_in row x) 0 h (λ i p. ap (λ (m : ℕ). get_or row m 0) (place i p))
  where
    place : (i : ℕ) → i < n → a + i ≡ clamp_to (length row) (x +ℤ pos i)
    place i p = omega (arith, above-add x (pos i))

-- n samples from column a on, of which m lie in the row: its rest, and then its last sample
pub past_last : (row : List ℕ) (a m n : ℕ) → a + m ≡ length row → m ≤ n
    → take m (drop a row) ++ tabulate (n - m) (λ _. get_or row (length row - 1) 0) ≡ tabulate n (clamped_in row (pos a))
past_last row a m n e h =
    ap (λ (t : List ℕ). t ++ tabulate (n - m) (λ _. get_or row (length row - 1) 0)) inner
    ∙ tabulate_two m (n - m) n (clamped_in row (pos a)) (clamped_in row (pos a)) (λ _. get_or row (length row - 1) 0) (omega arith)
    (λ i p. refl) (λ i p. ap (λ (q : ℕ). get_or row q 0) (place i))
  where
    inner : take m (drop a row) ≡ tabulate m (clamped_in row (pos a))
    inner = sym (part_is row a m) ∙ straight row (pos a) a m refl refl (omega arith)

    place : (i : ℕ) → length row - 1 ≡ clamp_to (length row) (pos a +ℤ pos (m + i))
    place i = omega arith

-- where they are b: the row's first sample for each, and then as from its own column a on
module _ (row : List ℕ) (x : ℤ) (n b a : ℕ) (eb : b ≡ min (below x) n) (ea : a ≡ clamp_to (length row) x) where
  first : (i : ℕ) → i < b → 0 ≡ clamp_to (length row) (x +ℤ pos i)
  first i p = omega (arith, above-add x (pos i), sides x)

  later : (i : ℕ) → i < n - b → clamp_to (length row) (pos a +ℤ pos i) ≡ clamp_to (length row) (x +ℤ pos (b + i))
  later i p = ap (λ (k : ℕ). min (k + i) (length row - 1)) ea ∙ again (above x) (length row - 1) ∙ ap (λ (k : ℕ). min k (length row - 1)) (sym along)
    where
      along : above (x +ℤ pos (b + i)) ≡ above x + i
      along = above-add x (pos (b + i)) ∙ omega arith

      again : (u t : ℕ) → min (min u t + i) t ≡ min (u + i) t
      again u t = omega arith

  pub before_first : tabulate b (λ _. get_or row 0 0) ++ tabulate (n - b) (clamped_in row (pos a)) ≡ tabulate n (clamped_in row x)
  before_first =
      tabulate_two b (n - b) n (clamped_in row x) (λ _. get_or row 0 0) (clamped_in row (pos a)) (omega arith)
      (λ i p. ap (λ (q : ℕ). get_or row q 0) (first i p)) (λ i p. ap (λ (q : ℕ). get_or row q 0) (later i p))

-- the part `&s[a..a + w]` of a plane is a row
within : (s : List ℕ) (x : ℤ) (a w i : ℕ) → 0 < w → a + w ≤ length s
    → clamped_in (take (a + w - a) (drop a s)) x i ≡ get_or s (a + clamp_to w (x +ℤ pos i)) 0
within s x a w i z h =
    ap (λ (m : ℕ). get_or (take (a + w - a) (drop a s)) (clamp_to m (x +ℤ pos i)) 0) (part_length s a w h)
    ∙ part_at s a w (clamp_to w (x +ℤ pos i)) 0 (omega arith)

-- a sample of the plane's row r, which is nearest to y
pub in_row : (p : Plane) (x y : ℤ) (r i : ℕ) → 0 < p.width → r * p.stride + p.width ≤ length p.samples → r ≡ clamp_to p.height y
    → clamped_in (take (r * p.stride + p.width - r * p.stride) (drop (r * p.stride) p.samples)) x i ≡ sample_at p (x +ℤ pos i) y
unfolding sample_at
in_row p x y r i z h e =
    within p.samples x (r * p.stride) p.width i z h
    ∙ ap (λ (q : ℕ). get_or p.samples (q * p.stride + clamp_to p.width (x +ℤ pos i)) 0) e

-- n samples of that row from column x on, all of which lie inside it, as the part `&s[a..a + n]` has them
pub inside_row : (p : Plane) (x : ℕ) (y : ℤ) (r n i : ℕ) → r ≡ clamp_to p.height y → x + n ≤ p.width → i < n
    → get_or (take (r * p.stride + x + n - (r * p.stride + x)) (drop (r * p.stride + x) p.samples)) i 0 ≡ sample_at p (pos x +ℤ pos i) y
unfolding sample_at
inside_row p x y r n i e h k =
    part_at p.samples (r * p.stride + x) n i 0 k
    ∙ ap (λ (m : ℕ). get_or p.samples m 0) (place (r * p.stride) p.width h)
    ∙ ap (λ (q : ℕ). get_or p.samples (q * p.stride + clamp_to p.width (pos x +ℤ pos i)) 0) e
  where
    place : (a w : ℕ) → x + n ≤ w → a + x + i ≡ a + clamp_to w (pos x +ℤ pos i)
    place a w h = omega arith

-- and they lie within the samples
pub row_end : (p : Plane) (x r n : ℕ) → Held p → r ≤ p.height - 1 → x + n ≤ p.width → r * p.stride + x + n ≤ length p.samples
row_end p x r n h e k = omega (arith, row_in_plane p r h e)

-- a list of columns from x on has each where it is told
module _ (columns : List ℕ) (width : ℕ) (x : ℤ) (i : ℕ) (e : columns ≡ tabulate (length columns) (column_at width x)) (h : i < length columns) where
  pub at_column : get_or columns i 0 ≡ column_at width x i
  at_column = ap (λ (l : List ℕ). get_or l i 0) e ∙ get_or-tabulate (length columns) (column_at width x) i 0 h

-- and all of them within a row of that width
pub columns_in : (columns : List ℕ) (width n : ℕ) (x : ℤ) → columns ≡ tabulate (length columns) (column_at width x) → 0 < width → n ≡ width → ColumnsIn columns n
columns_in columns width n x e z w = record { column_in = λ i h. omega (arith, at_column columns width x i e h) }
