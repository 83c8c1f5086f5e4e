-- Laws of lists that loops fill from the front, over any length and any element type. Assumes nothing.
use Prim.Native.Nat.{ℕ, zero, suc, ◌+◌, ◌-◌, ◌*◌, ◌<◌, ◌≤◌}
use native.Mathlib.Nat.{not-suc-le-zero, zero-mul, mul-le-mul_right}
use native.Mathlib.Decide.{dec_lt}
use native.Mathlib.Numerals.{add-one}
use native.Mathlib.Omega.{arith}
use mathlib.Core.Path.{◌≡◌, refl, sym, ap, ap₂, ◌∙◌}
use mathlib.Core.List.{List, [], ◌∷◌, ◌++◌, append_assoc, append-nil, foldl, foldl-append}
use lib.ListN.{length, get_or, take, drop, set, length-append, length-drop, drop_of_length-le, get_or-append, replicate, replicate-append-replicate}
use Rattle.basis.specs.Lists.{tabulate, rows, raster}
use lib.Seq.{get_or_at, set_at, take_at, drop_at, drop-cons, append_snoc, drop-drop, take-append-le, drop-append-le, take_all, get_or-take, get_or-drop, ext_get_or}

module _ {A : Type 0} where
  -- ---- one list

  pub length-tabulate : (n : ℕ) (f : ℕ → A) → length (tabulate n f) ≡ n
  unfolding tabulate
  length-tabulate zero f = refl
  length-tabulate (suc n) f = length-append (tabulate n f) (f n ∷ []) ∙ omega (arith, length-tabulate n f)

  pub get_or-tabulate : (n : ℕ) (f : ℕ → A) (i : ℕ) (d : A) → i < n → get_or (tabulate n f) i d ≡ f i
  unfolding tabulate
  get_or-tabulate zero f i d h = absurd (not-suc-le-zero h)
  get_or-tabulate (suc n) f i d h = by_last (get_or-tabulate n f i d) (dec_lt i n)
    where
      by_last : (i < n → get_or (tabulate n f) i d ≡ f i) → Dec (i < n) → get_or (tabulate n f ++ (f n ∷ [])) i d ≡ f i
      by_last below (yes p) =
          get_or-append (tabulate n f) (f n ∷ []) d i (omega (arith, length-tabulate n f)) ∙ below p
      by_last below (no q) =
          let e : n ≡ i = omega (arith, q) in
          get_or_at (tabulate n f) (f n) [] d i (length-tabulate n f ∙ e) ∙ ap f e

  pub tabulate_cong : (n : ℕ) (f g : ℕ → A) → ((i : ℕ) → i < n → f i ≡ g i) → tabulate n f ≡ tabulate n g
  unfolding tabulate
  tabulate_cong zero f g h = refl
  tabulate_cong (suc n) f g h =
      ap₂ (λ (l : List A) (a : A). l ++ (a ∷ [])) (tabulate_cong n f g (λ i p. h i (omega arith))) (h n (omega arith))

  pub tabulate_join : (a b : ℕ) (f : ℕ → A) → tabulate (a + b) f ≡ tabulate a f ++ tabulate b (λ k. f (a + k))
  unfolding tabulate
  tabulate_join a zero f = ap (λ (n : ℕ). tabulate n f) none ∙ sym (append-nil (tabulate a f))
    where
      none : a + 0 ≡ a
      none = omega arith
  tabulate_join a (suc b) f =
      ap (λ (n : ℕ). tabulate n f) next ∙ ap (λ (l : List A). l ++ (f (a + b) ∷ [])) (tabulate_join a b f)
      ∙ append_assoc (tabulate a f) (tabulate b (λ k. f (a + k))) (f (a + b) ∷ [])
    where
      next : a + suc b ≡ suc (a + b)
      next = omega arith

  -- two lists joined, by what stands in each
  pub tabulate_two : (a b n : ℕ) (f g h : ℕ → A) → a + b ≡ n → ((i : ℕ) → i < a → g i ≡ f i) → ((i : ℕ) → i < b → h i ≡ f (a + i))
      → tabulate a g ++ tabulate b h ≡ tabulate n f
  tabulate_two a b n f g h e p q =
      ap₂ (λ (x y : List A). x ++ y) (tabulate_cong a g f p) (tabulate_cong b h (λ k. f (a + k)) q)
      ∙ sym (tabulate_join a b f) ∙ ap (λ (m : ℕ). tabulate m f) e

  pub tabulate_const : (n : ℕ) (v : A) → tabulate n (λ _. v) ≡ replicate n v
  unfolding tabulate
  tabulate_const zero v = refl
  tabulate_const (suc n) v = ap (λ (l : List A). l ++ (v ∷ [])) (tabulate_const n v) ∙ replicate-append-replicate n 1 v ∙ ap (λ (m : ℕ). replicate m v) next
    where
      next : n + 1 ≡ suc n
      next = omega arith

  -- a list is made of its elements
  pub tabulate_same : (n : ℕ) (l : List A) (d : A) → length l ≡ n → tabulate n (λ i. get_or l i d) ≡ l
  tabulate_same n l d h =
      ext_get_or d (tabulate n (λ i. get_or l i d)) l (length-tabulate n (λ i. get_or l i d) ∙ sym h)
      (λ i p. get_or-tabulate n (λ k. get_or l k d) i d (omega (arith, length-tabulate n (λ k. get_or l k d))))

  -- what a loop has written after i turns, over what was there
  abbrev pub filled : ℕ → (ℕ → A) → List A → List A
  filled i f l = tabulate i f ++ drop i l

  pub filled_none : (f : ℕ → A) (l : List A) → filled 0 f l ≡ l
  unfolding tabulate
  filled_none f l = refl

  pub length_filled : (i : ℕ) (f : ℕ → A) (l : List A) → i ≤ length l → length (filled i f l) ≡ length l
  length_filled i f l h =
      length-append (tabulate i f) (drop i l) ∙ omega (arith, length-tabulate i f, length-drop i l)

  pub filled_more : (i : ℕ) (f : ℕ → A) (l : List A) (d : A) → i < length l → set (filled i f l) i (f i) ≡ filled (i + 1) f l
  unfolding tabulate
  filled_more i f l d h =
      ap (λ (r : List A). set (tabulate i f ++ r) i (f i)) (drop-cons l i d h)
      ∙ set_at (tabulate i f) (get_or l i d) (drop (suc i) l) (f i) i (length-tabulate i f)
      ∙ sym (append_snoc (tabulate i f) (f i) (drop (suc i) l))
      ∙ ap (λ (k : ℕ). filled k f l) e
    where
      e : suc i ≡ i + 1
      e = omega arith

  pub filled_all : (n : ℕ) (f : ℕ → A) (l : List A) → length l ≡ n → filled n f l ≡ tabulate n f
  filled_all n f l h =
      ap (λ (r : List A). tabulate n f ++ r) (drop_of_length-le l {i = n} (omega arith)) ∙ append-nil (tabulate n f)

  -- a turn's store, and the loop's end, as a proof meets them
  pub filled_set : (i : ℕ) (f : ℕ → A) (l out : List A) (v : A) → out ≡ filled i f l → v ≡ f i → i < length l → set out i v ≡ filled (i + 1) f l
  filled_set i f l out v e ev h = ap₂ (λ (x : List A) (a : A). set x i a) e ev ∙ filled_more i f l v h

  pub filled_end : (i : ℕ) (f : ℕ → A) (l out : List A) → out ≡ filled i f l → length l ≡ i → out ≡ tabulate (length l) f
  filled_end i f l out e h = e ∙ filled_all i f l h ∙ ap (λ (k : ℕ). tabulate k f) (sym h)

  -- ---- rows of one length

  -- what a loop over rows of n has written after j turns, over what was there
  abbrev pub laid : ℕ → (ℕ → List A) → ℕ → List A → List A
  laid n r j l = rows j r ++ drop (j * n) l

  module _ (n : ℕ) (r : ℕ → List A) (len : (j : ℕ) → length (r j) ≡ n) where
    pub length-rows : (m : ℕ) → length (rows m r) ≡ m * n
    unfolding rows
    length-rows zero = sym (zero-mul n)
    length-rows (suc m) = length-append (rows m r) (r m) ∙ omega (arith, length-rows m, len m)

    -- row j, taken out again
    pub row_of_lem : (m j : ℕ) → j < m → take n (drop (j * n) (rows m r)) ≡ r j
    unfolding rows
    row_of_lem zero j h = absurd (not-suc-le-zero h)
    row_of_lem (suc m) j h = by_last (row_of_lem m j) (dec_lt j m)
      where
        by_last : (j < m → take n (drop (j * n) (rows m r)) ≡ r j) → Dec (j < m) → take n (drop (j * n) (rows m r ++ r m)) ≡ r j
        by_last before (yes p) =
            let k : suc j * n ≤ m * n = mul-le-mul_right n p in
            ap (take n) (drop-append-le (j * n) (rows m r) (r m) (omega (arith, length-rows m)))
            ∙ take-append-le n (drop (j * n) (rows m r)) (r m) (omega (arith, length-drop (j * n) (rows m r), length-rows m))
            ∙ before p
        by_last before (no q) =
            let e : m ≡ j = omega (arith, q) in
            ap (take n) (drop_at (rows m r) (r m) (j * n) (length-rows m ∙ ap (λ (k : ℕ). k * n) e))
            ∙ take_all n (r m) (omega (arith, len m)) ∙ ap r e

    pub get_or-rows : (m i j : ℕ) (d : A) → i < n → j < m → get_or (rows m r) (j * n + i) d ≡ get_or (r j) i d
    get_or-rows m i j d p q =
        sym (get_or-take n (drop (j * n) (rows m r)) i d p ∙ get_or-drop (j * n) (rows m r) i d) ∙ ap (λ (l : List A). get_or l i d) (row_of_lem m j q)

    pub laid_none : (l : List A) → laid n r 0 l ≡ l
    unfolding rows
    laid_none l = ap (λ (k : ℕ). drop k l) (zero-mul n)

    pub length_laid : (j : ℕ) (l : List A) → j * n ≤ length l → length (laid n r j l) ≡ length l
    length_laid j l h =
        length-append (rows j r) (drop (j * n) l) ∙ omega (arith, length-rows j, length-drop (j * n) l)

    pub laid_more : (j : ℕ) (l : List A) → take (j * n) (laid n r j l) ++ (r j ++ drop (j * n + n) (laid n r j l)) ≡ laid n r (j + 1) l
    unfolding rows
    laid_more j l =
        ap₂ (λ (x y : List A). x ++ (r j ++ y)) (take_at (rows j r) (drop (j * n) l) (j * n) (length-rows j))
        (sym (drop-drop n (j * n) (laid n r j l)) ∙ ap (drop n) (drop_at (rows j r) (drop (j * n) l) (j * n) (length-rows j)) ∙ drop-drop n (j * n) l)
        ∙ sym (append_assoc (rows j r) (r j) (drop (j * n + n) l))
        ∙ ap₂ (λ (x : List A) (y : ℕ). x ++ drop y l) (ap (λ (k : ℕ). rows k r) next) place
      where
        next : suc j ≡ j + 1
        next = omega arith

        place : j * n + n ≡ (j + 1) * n
        place = omega arith

    pub laid_all : (m : ℕ) (l : List A) → length l ≡ m * n → laid n r m l ≡ rows m r
    laid_all m l h =
        ap (λ (x : List A). rows m r ++ x) (drop_of_length-le l {i = m * n} (omega arith)) ∙ append-nil (rows m r)

    -- a turn that lends the part from j * n to j * n + n, which comes back as row j; and the loop's end
    pub laid_put : (j : ℕ) (l out row : List A) → out ≡ laid n r j l → row ≡ r j
        → take (j * n) out ++ (row ++ drop (j * n + n - j * n) (drop (j * n) out)) ≡ laid n r (j + 1) l
    laid_put j l out row e er =
        ap₂ (λ (x y : List A). take (j * n) x ++ (y ++ drop (j * n + n - j * n) (drop (j * n) x))) e er
        ∙ ap (λ (x : List A). take (j * n) (laid n r j l) ++ (r j ++ x))
        (ap (λ (m : ℕ). drop m (drop (j * n) (laid n r j l))) count ∙ drop-drop n (j * n) (laid n r j l))
        ∙ laid_more j l
      where
        count : j * n + n - j * n ≡ n
        count = omega arith

    pub laid_end : (m j : ℕ) (l out : List A) → out ≡ laid n r j l → j ≡ m → length l ≡ m * n → out ≡ rows m r
    laid_end m j l out e ej h = e ∙ ap (λ (k : ℕ). laid n r k l) ej ∙ laid_all m l h

  pub rows_cong : (m : ℕ) (r r' : ℕ → List A) → ((j : ℕ) → j < m → r j ≡ r' j) → rows m r ≡ rows m r'
  unfolding rows
  rows_cong zero r r' h = refl
  rows_cong (suc m) r r' h =
      ap₂ (λ (x y : List A). x ++ y) (rows_cong m r r' (λ j p. h j (omega arith))) (h m (omega arith))

  -- a fold over rows goes on with the next row
  pub fold-rows : {B : Type 0} (f : B → A → B) (b : B) (n : ℕ) (g : ℕ → List A) → foldl f b (rows (n + 1) g) ≡ foldl f (foldl f b (rows n g)) (g n)
  unfolding rows
  fold-rows f b n g = rw add-one (foldl-append f b (rows n g) (g n))

  -- ---- raster order

  -- there is one list of no entries
  pub empty_same : (l m : List A) → length l ≡ 0 → length m ≡ 0 → l ≡ m
  empty_same [] [] e f = refl
  empty_same [] (x ∷ m) e f = absurd (omega arith)
  empty_same (x ∷ l) m e f = absurd (omega arith)

  pub raster_cong : (w h : ℕ) (f g : ℕ → ℕ → A) → ((i j : ℕ) → i < w → j < h → f i j ≡ g i j) → raster w h f ≡ raster w h g
  raster_cong w h f g e =
      rows_cong h (λ j. tabulate w (λ i. f i j)) (λ j. tabulate w (λ i. g i j)) (λ j q. tabulate_cong w (λ i. f i j) (λ i. g i j) (λ i p. e i j p q))

  module _ (w h : ℕ) (f : ℕ → ℕ → A) where
    wide : (j : ℕ) → length (tabulate w (λ i. f i j)) ≡ w
    wide j = length-tabulate w (λ i. f i j)

    pub length-raster : length (raster w h f) ≡ h * w
    length-raster = length-rows w (λ j. tabulate w (λ i. f i j)) wide h

    -- column i of row j
    pub get_or-raster : (i j : ℕ) (d : A) → i < w → j < h → get_or (raster w h f) (j * w + i) d ≡ f i j
    get_or-raster i j d p q =
        get_or-rows w (λ j. tabulate w (λ i. f i j)) wide h i j d p q ∙ get_or-tabulate w (λ i. f i j) i d p
