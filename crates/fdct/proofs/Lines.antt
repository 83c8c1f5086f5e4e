-- Eight sums side by side come to the transform of each line, row or column. Assumes nothing.
use Prim.Native.Nat.{ℕ, zero, suc, ◌+◌, ◌*◌, ◌/◌, ◌%◌, ◌<◌}
use native.Mathlib.Numerals.{add-one}
use native.Mathlib.Omega.{arith}
use mathlib.Core.List.{List}
use mathlib.Core.Path.{◌≡◌, refl, sym, ap, ap₂, ◌∙◌, subst}
use native.Mathlib.Nat.{mul_comm}
use mathlib.Core.Bool.{Bool, true, false, cond}
use lib.Dec.{eqb}
use lib.Ieee.{Float, nan, inf, fin, binary64, up, down, unlike, round, add, mul}
use lib.ListN.{length, get_or, set}
use lib.Seq.{get_or-set_same, get_or-set_other}
use borrow.Author.Tests.{eqb-true, eqb-false}
use Rattle.basis.specs.Lists.{tabulate}
use Rattle.basis.proofs.Lists.{get_or-tabulate, tabulate_cong, tabulate_same}
use Rattle.fdct.specs.Cosine.{cosine, cosines}
use Rattle.fdct.specs.Double.{half_double}
use Rattle.fdct.specs.Line.{weighted_sum, weight, fdct1d}
use Rattle.fdct.specs.Told.{entries, row_of, column_of, dot, swapped_cosines, across_at, passed_at}

-- place x of row u, in rows of eight
pub row_of_lem : (u x : ℕ) → x < 8 → (u * 8 + x) / 8 ≡ u
row_of_lem u x h = omega arith

pub column_of_lem : (u x : ℕ) → x < 8 → (u * 8 + x) % 8 ≡ x
column_of_lem u x h = omega arith

pub inside : (u x : ℕ) → u < 8 → x < 8 → u * 8 + x < 64
inside u x h k = omega arith

-- a list of n entries, each of which is told
pub each_is : (n : ℕ) (f : ℕ → Float) (l : List Float) (d : Float) → length l ≡ n → ((i : ℕ) → i < n → get_or l i d ≡ f i) → l ≡ tabulate n f
each_is n f l d long each = sym (tabulate_same n l d long) ∙ tabulate_cong n (λ i. get_or l i d) f each

-- one entry more is told: r is the scale at its place
pub scaled_more : (P : ℕ → Float → Type 0) (sums out : List Float) (i : ℕ) (r : Float) → i < length out → P i r
    → ((k : ℕ) → k < i → (s : Float) × P k s × (entries out k ≡ mul binary64 s (entries sums k)))
    → (k : ℕ) → k < i + 1 → (s : Float) × P k s × (entries (set out i (mul binary64 r (entries sums i))) k ≡ mul binary64 s (entries sums k))
scaled_more P sums out i r room p below k h = by (eqb k i) refl
  where
    by : (t : Bool) → eqb k i ≡ t → (s : Float) × P k s × (entries (set out i (mul binary64 r (entries sums i))) k ≡ mul binary64 s (entries sums k))
    by true e =
        subst (λ (n : ℕ). (s : Float) × P n s × (entries (set out i (mul binary64 r (entries sums i))) n ≡ mul binary64 s (entries sums n))) (sym (eqb-true k i e))
        (r, p, get_or-set_same out i (mul binary64 r (entries sums i)) nan room)
    by false e =
        let other = eqb-false k i e in
        let w = below k (omega arith) in
        (w.0, w.1, get_or-set_other out i k (mul binary64 r (entries sums i)) nan other ∙ w.2)

-- the tables' entries for u and x
table_at : (table : List Float) → table ≡ cosines → (u x : ℕ) → u < 8 → x < 8 → get_or table (u * 8 + x) nan ≡ cosine u x
unfolding cosines
table_at table e u x hu hx =
    ap (λ (l : List Float). get_or l (u * 8 + x) nan) e
    ∙ get_or-tabulate 64 (λ k. cosine (k / 8) (k % 8)) (u * 8 + x) nan (inside u x hu hx)
    ∙ ap₂ cosine (row_of_lem u x hx) (column_of_lem u x hx)

swapped_at : (table : List Float) → table ≡ swapped_cosines → (u x : ℕ) → u < 8 → x < 8 → get_or table (x * 8 + u) nan ≡ cosine u x
unfolding swapped_cosines
swapped_at table e u x hu hx =
    ap (λ (l : List Float). get_or l (x * 8 + u) nan) e
    ∙ get_or-tabulate 64 (λ k. cosine (k % 8) (k / 8)) (x * 8 + u) nan (inside x u hx hu)
    ∙ ap₂ cosine (column_of_lem x u hu) (row_of_lem x u hu)

-- the eight sums of row u of a table and a block's columns, over the first x places
abbrev pub sums_of : List Float → List Float → ℕ → ℕ → List Float
sums_of table block u x = tabulate 8 (λ j. dot (column_of (entries block) j) (row_of (entries table) u) x)

-- row x times the table's entry, added
abbrev added_at : List Float → List Float → List Float → ℕ → ℕ → ℕ → Float
added_at table block sums u x j = add binary64 (entries sums j) (mul binary64 (entries block (x * 8 + j)) (get_or table (u * 8 + x) nan))

sum_at_lem : (sums : List Float) (f : ℕ → Float) (j : ℕ) → sums ≡ tabulate 8 f → j < 8 → entries sums j ≡ f j
sum_at_lem sums f j e h = ap (λ (l : List Float). get_or l j nan) e ∙ get_or-tabulate 8 f j nan h

pub sums_more : (table block sums more : List Float) (u x : ℕ) → sums ≡ sums_of table block u x
    → more ≡ tabulate 8 (added_at table block sums u x) → more ≡ sums_of table block u (x + 1)
unfolding dot
sums_more table block sums more u x es em =
    em
    ∙ tabulate_cong 8 (added_at table block sums u x) (λ j. dot (column_of (entries block) j) (row_of (entries table) u) (suc x))
    (λ j h.
    ap (λ (s : Float). add binary64 s (mul binary64 (entries block (x * 8 + j)) (entries table (u * 8 + x))))
    (sum_at_lem sums (λ k. dot (column_of (entries block) k) (row_of (entries table) u) x) j es h))
    ∙ ap (sums_of table block u) (sym (add-one x))

-- ---- what the sums are, by which side has the cosines: a product does not ask for the order of its factors
unlike_swap : (s t : Bool) → unlike s t ≡ unlike t s
unlike_swap true true = refl
unlike_swap true false = refl
unlike_swap false true = refl
unlike_swap false false = refl

product_swap : (x y : Float) → mul binary64 x y ≡ mul binary64 y x
unfolding mul
product_swap nan nan = refl
product_swap nan (inf t) = refl
product_swap nan (fin t n d) = refl
product_swap (inf s) nan = refl
product_swap (inf s) (inf t) = ap inf (unlike_swap s t)
product_swap (inf s) (fin t n d) = ap (λ (b : Bool). cond (eqb n 0) nan (inf b)) (unlike_swap s t)
product_swap (fin s m e) nan = refl
product_swap (fin s m e) (inf t) = ap (λ (b : Bool). cond (eqb m 0) nan (inf b)) (unlike_swap s t)
product_swap (fin s m e) (fin t n d) =
    ap (λ (b : Bool). round binary64 b (m * up e * (n * up d)) (down e * down d)) (unlike_swap s t)
    ∙ ap₂ (round binary64 (unlike t s)) (mul_comm (m * up e) (n * up d)) (mul_comm (down e) (down d))

by_second : (line g : ℕ → Float) (u n : ℕ) → ((x : ℕ) → x < n → g x ≡ cosine u x) → dot line g n ≡ weighted_sum line u n
unfolding dot weighted_sum
by_second line g u zero h = refl
by_second line g u (suc n) h =
    ap₂ (λ (s w : Float). add binary64 s (mul binary64 (line n) w)) (by_second line g u n (λ x p. h x (omega arith))) (h n (omega arith))

by_first : (line g : ℕ → Float) (u n : ℕ) → ((x : ℕ) → x < n → g x ≡ cosine u x) → dot g line n ≡ weighted_sum line u n
unfolding dot weighted_sum
by_first line g u zero h = refl
by_first line g u (suc n) h =
    ap₂ (add binary64) (by_first line g u n (λ x p. h x (omega arith)))
    (ap (λ (w : Float). mul binary64 w (line n)) (h n (omega arith)) ∙ product_swap (cosine u n) (line n))

-- row u of the columns' pass
pub row_is : (table block sums row : List Float) (u : ℕ) (scale : Float) → table ≡ cosines → u < 8
    → sums ≡ sums_of table block u 8 → scale ≡ mul binary64 half_double (weight u)
    → row ≡ tabulate 8 (λ j. mul binary64 scale (entries sums j)) → row ≡ tabulate 8 (λ j. passed_at (entries block) j u)
unfolding fdct1d
row_is table block sums row u scale et hu es ec er =
    er
    ∙ tabulate_cong 8 (λ j. mul binary64 scale (entries sums j)) (λ j. passed_at (entries block) j u)
    (λ j h.
    ap₂ (mul binary64) ec
    (sum_at_lem sums (λ k. dot (column_of (entries block) k) (row_of (entries table) u) 8) j es h
    ∙ by_second (column_of (entries block) j) (row_of (entries table) u) u 8 (λ x hx. table_at table et u x hu hx)))

-- row y of the rows' pass
pub across_is : (table block sums row : List Float) (y : ℕ) → table ≡ swapped_cosines → sums ≡ sums_of block table y 8
    → row ≡ tabulate 8 (λ j. mul binary64 (mul binary64 half_double (weight j)) (entries sums j)) → row ≡ tabulate 8 (λ u. across_at (entries block) u y)
unfolding fdct1d
across_is table block sums row y et es er =
    er
    ∙ tabulate_cong 8 (λ j. mul binary64 (mul binary64 half_double (weight j)) (entries sums j)) (λ u. across_at (entries block) u y)
    (λ j h.
    ap (mul binary64 (mul binary64 half_double (weight j)))
    (sum_at_lem sums (λ k. dot (column_of (entries table) k) (row_of (entries block) y) 8) j es h
    ∙ by_first (row_of (entries block) y) (column_of (entries table) j) j 8 (λ x hx. swapped_at table et j x h hx)))

-- a line's transform looks at its eight places only
sum_cong : (f g : ℕ → Float) (u n : ℕ) → ((x : ℕ) → x < n → f x ≡ g x) → weighted_sum f u n ≡ weighted_sum g u n
unfolding weighted_sum
sum_cong f g u zero h = refl
sum_cong f g u (suc n) h =
    ap₂ (λ (s v : Float). add binary64 s (mul binary64 v (cosine u n))) (sum_cong f g u n (λ x p. h x (omega arith))) (h n (omega arith))

pub fdct1d_cong : (f g : ℕ → Float) (u : ℕ) → ((x : ℕ) → x < 8 → f x ≡ g x) → fdct1d f u ≡ fdct1d g u
unfolding fdct1d
fdct1d_cong f g u h = ap (mul binary64 (mul binary64 half_double (weight u))) (sum_cong f g u 8 h)
