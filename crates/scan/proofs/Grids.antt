-- Each scan grid is a permutation of 0..63, by two computed tests over the table, and what scan and inverse scan make of that.
-- Assumes nothing.
use Prim.Native.Nat.{ℕ, zero, suc, ◌+◌, ◌*◌, ◌/◌, ◌%◌, ◌≤◌, ◌<◌}
use native.Mathlib.Numerals.{add-one}
use native.Mathlib.Omega.{arith}
use mathlib.Core.Bool.{Bool, true, false, cond, ◌&&◌}
use mathlib.Core.List.{List, []}
use mathlib.Core.Logic.{◌≢◌}
use mathlib.Core.Path.{◌≡◌, refl, sym, ap, ap₂, ◌∙◌, subst}
use lib.Dec.{T, eqb, ltb}
use lib.IntN.{ℤ, pos}
use lib.ListN.{length, get_or, set, length-set}
use lib.Seq.{get_or-set_same, get_or-set_other}
use mir.Facts.{eqb_yes, ltb_yes, and_yes}
use borrow.Author.Tests.{eqb-true, eqb-false}
use Rattle.basis.proofs.Lists.{length-tabulate, get_or-tabulate, tabulate_cong, tabulate_same}
use Rattle.scan.specs.Grid.{alt_horizontal, alt_vertical, zigzag, grid_of, entry_at, scan_place_of, scanned, unscanned, Permutes, Returns}
use Rattle.scan.specs.Told.{put_row}
use Rattle.basis.proofs.Table.{upto, upto_at}

-- the tests: an entry is below 64 and is found where it stands, and each of 0..63 is found where it is the entry
abbrev inward : List (List ℕ) → ℕ → Bool
inward g p = ltb (entry_at g p) 64 && eqb (scan_place_of g (entry_at g p)) p

abbrev outward : List (List ℕ) → ℕ → Bool
outward g k = ltb (scan_place_of g k) 64 && eqb (entry_at g (scan_place_of g k)) k

permuted : (g : List (List ℕ)) → T (upto (inward g) 64) → T (upto (outward g) 64) → Permutes g
permuted g t u =
    record {
      entry_below = λ p h. ltb_yes (and_yes (ltb (entry_at g p) 64) (eqb (scan_place_of g (entry_at g p)) p) (upto_at (inward g) 64 t p h)).0;
      place-below = λ k h. ltb_yes (and_yes (ltb (scan_place_of g k) 64) (eqb (entry_at g (scan_place_of g k)) k) (upto_at (outward g) 64 u k h)).0;
      there = λ p h. eqb_yes (and_yes (ltb (entry_at g p) 64) (eqb (scan_place_of g (entry_at g p)) p) (upto_at (inward g) 64 t p h)).1;
      back = λ k h. eqb_yes (and_yes (ltb (scan_place_of g k) 64) (eqb (entry_at g (scan_place_of g k)) k) (upto_at (outward g) 64 u k h)).1;
    }

horizontal : Permutes alt_horizontal
unfolding alt_horizontal
horizontal = permuted alt_horizontal tt tt

vertical : Permutes alt_vertical
unfolding alt_vertical
vertical = permuted alt_vertical tt tt

diagonal : Permutes zigzag
unfolding zigzag
diagonal = permuted zigzag tt tt

pub permutes : (s : ℕ) → Permutes (grid_of s)
unfolding grid_of
permutes s = either (eqb s 0) horizontal (either (eqb s 1) vertical diagonal)
  where
    either : {x y : List (List ℕ)} (t : Bool) → Permutes x → Permutes y → Permutes (cond t x y)
    either true p q = p
    either false p q = q

-- after p turns of the scan: what stood at the places 0..p-1 is where the grid says
pub record Scattered (g : List (List ℕ)) (xs out : List ℤ) (p : ℕ) : Type 0 where
  pub at_most : p ≤ 64
  pub long : length out ≡ 64
  pub stored : (j : ℕ) → j < p → get_or out (entry_at g j) (pos 0) ≡ get_or xs j (pos 0)

pub scatter_none : (g : List (List ℕ)) (xs out : List ℤ) → length out ≡ 64 → Scattered g xs out 0
scatter_none g xs out e = record { at_most = omega arith; long = e; stored = λ j h. absurd (none j h) }
  where
    none : (j : ℕ) → j < 0 → ⊥
    none j h = omega arith

module _ {g : List (List ℕ)} (w : Permutes g) {xs out : List ℤ} {p : ℕ} (s : Scattered g xs out p) where
  pub scatter_more : p < 64 → Scattered g xs (set out (entry_at g p) (get_or xs p (pos 0))) (p + 1)
  scatter_more h =
      record {
        at_most = omega arith;
        long = length-set out (entry_at g p) (get_or xs p (pos 0)) ∙ s.long;
        stored = λ j l. below j l (eqb j p) refl;
      }
    where
      apart : (j : ℕ) → j < 64 → (j ≡ p → ⊥) → entry_at g j ≢ entry_at g p
      apart j l n e = n (sym (w.there j l) ∙ ap (scan_place_of g) e ∙ w.there p h)

      below : (j : ℕ) → j < p + 1 → (t : Bool) → eqb j p ≡ t → get_or (set out (entry_at g p) (get_or xs p (pos 0))) (entry_at g j) (pos 0) ≡ get_or xs j (pos 0)
      below j l true e =
          let same = eqb-true j p e in
          subst
          (λ (i : ℕ). get_or (set out (entry_at g p) (get_or xs p (pos 0))) (entry_at g i) (pos 0) ≡ get_or xs i (pos 0))
          (sym same)
          (get_or-set_same out (entry_at g p) (get_or xs p (pos 0)) (pos 0) (omega (arith, w.entry_below p h, s.long)))
      below j l false e =
          let other = eqb-false j p e in
          get_or-set_other out (entry_at g p) (entry_at g j) (get_or xs p (pos 0)) (pos 0) (apart j (omega arith) other) ∙ s.stored j (omega arith)

  pub scatter_all : 64 ≤ p → out ≡ scanned g xs
  unfolding scanned
  scatter_all h =
      sym (tabulate_same 64 out (pos 0) s.long)
      ∙ tabulate_cong 64 (λ k. get_or out k (pos 0)) (λ k. get_or xs (scan_place_of g k) (pos 0))
      (λ k l. ap (λ (m : ℕ). get_or out m (pos 0)) (sym (w.back k l)) ∙ s.stored (scan_place_of g k) (omega (arith, w.place-below k l)))

-- ---- a row at a time
row_entry : (g : List (List ℕ)) (y x : ℕ) → x < 8 → entry_at g (y * 8 + x) ≡ get_or (get_or g y []) x 0
row_entry g y x h =
    ap₂ (λ (a b : ℕ). get_or (get_or g a []) b 0)
    (let row : (y * 8 + x) / 8 ≡ y = omega arith in row) (let column : (y * 8 + x) % 8 ≡ x = omega arith in column)

-- each entry of a permutation's row is one of the 64
pub row_below : {g : List (List ℕ)} → Permutes g → (y x : ℕ) → y < 8 → x < 8 → get_or (get_or g y []) x 0 < 64
row_below {g} w y x hy hx = subst (λ (k : ℕ). k < 64) (row_entry g y x hx) (w.entry_below (y * 8 + x) (omega arith))

pub length_put : (row : List ℕ) (levels : List ℤ) (n : ℕ) (out : List ℤ) → length (put_row row levels n out) ≡ length out
unfolding put_row
length_put row levels zero out = refl
length_put row levels (suc n) out = length-set (put_row row levels n out) (get_or row n 0) (get_or levels n (pos 0)) ∙ length_put row levels n out

pub put_more : (row : List ℕ) (levels was out : List ℤ) (n : ℕ) (v : ℤ) → out ≡ put_row row levels n was → v ≡ get_or levels n (pos 0)
    → set out (get_or row n 0) v ≡ put_row row levels (n + 1) was
unfolding put_row
put_more row levels was out n v e f =
    ap₂ (λ (o : List ℤ) (z : ℤ). set o (get_or row n 0) z) e f ∙ ap (λ (m : ℕ). put_row row levels m was) (sym (add-one n))

-- n turns of row y, whose levels stand in a part
pub scatter_row : (g : List (List ℕ)) (xs out part : List ℤ) (y n : ℕ) → Permutes g → y < 8 → n ≤ 8 → Scattered g xs out (y * 8)
    → ((x : ℕ) → x < 8 → get_or part x (pos 0) ≡ get_or xs (y * 8 + x) (pos 0)) → Scattered g xs (put_row (get_or g y []) part n out) (y * 8 + n)
unfolding put_row
scatter_row g xs out part y zero w hy hn s e = subst (Scattered g xs out) (let p : y * 8 ≡ y * 8 + 0 = omega arith in p) s
scatter_row g xs out part y (suc n) w hy hn s e =
    let before = scatter_row g xs out part y n w hy (omega arith) s e in
    let more = scatter_more w before (omega arith) in
    let at = row_entry g y n (omega arith) in
    let was = put_row (get_or g y []) part n out in
    subst (Scattered g xs (set was (get_or (get_or g y []) n 0) (get_or part n (pos 0)))) (let p : y * 8 + n + 1 ≡ y * 8 + suc n = omega arith in p)
    (subst (λ (z : ℤ). Scattered g xs (set was (get_or (get_or g y []) n 0) z) (y * 8 + n + 1)) (sym (e n (omega arith)))
    (subst (λ (k : ℕ). Scattered g xs (set was k (get_or xs (y * 8 + n) (pos 0))) (y * 8 + n + 1)) at more))

pub length-scanned : (g : List (List ℕ)) (levels : List ℤ) → length (scanned g levels) ≡ 64
unfolding scanned
length-scanned g levels = length-tabulate 64 (λ k. get_or levels (scan_place_of g k) (pos 0))

-- what holds of each of 64 levels holds of each in scan order
pub scanned_each : (s : ℕ) (levels : List ℤ) (p : ℤ → Bool) → ((i : ℕ) → i < 64 → p (get_or levels i (pos 0)) ≡ true)
    → (k : ℕ) → k < 64 → p (get_or (scanned (grid_of s) levels) k (pos 0)) ≡ true
unfolding scanned
scanned_each s levels p each k h =
    let g = grid_of s in
    ap p (get_or-tabulate 64 (λ k. get_or levels (scan_place_of g k) (pos 0)) k (pos 0) h) ∙ each (scan_place_of g k) ((permutes s).place-below k h)

-- scan and inverse scan undo each other
pub returns : (s : ℕ) → Returns s
unfolding scanned unscanned
returns s =
    let g = grid_of s in
    let w = permutes s in
    record {
      by_rows = λ levels e.
          tabulate_cong 64 (λ p. get_or (scanned g levels) (entry_at g p) (pos 0)) (λ p. get_or levels p (pos 0))
          (λ p h.
          get_or-tabulate 64 (λ k. get_or levels (scan_place_of g k) (pos 0)) (entry_at g p) (pos 0) (w.entry_below p h)
          ∙ ap (λ (j : ℕ). get_or levels j (pos 0)) (w.there p h))
          ∙ tabulate_same 64 levels (pos 0) e;
      by_scan = λ levels e.
          tabulate_cong 64 (λ k. get_or (unscanned g levels) (scan_place_of g k) (pos 0)) (λ k. get_or levels k (pos 0))
          (λ k h.
          get_or-tabulate 64 (λ p. get_or levels (entry_at g p) (pos 0)) (scan_place_of g k) (pos 0) (w.place-below k h)
          ∙ ap (λ (j : ℕ). get_or levels j (pos 0)) (w.back k h))
          ∙ tabulate_same 64 levels (pos 0) e;
    }
