-- The scan grids of Figure 7-4 of the standard, as src/scan.rs has them, and the scan by a grid (rules E1 to E4).
use Rattle.std.specs.Prelude.{ℕ, zero, suc, ◌/◌, ◌%◌, ◌<◌, Bool, cond, ◌&&◌, List, [], ◌∷◌, ◌≡◌, eqb, ℤ, pos, get_or, length}
use Rattle.basis.specs.Lists.{tabulate}

unfoldable pub alt_horizontal : List (List ℕ)
alt_horizontal =
    (0 ∷ 1 ∷ 2 ∷ 3 ∷ 10 ∷ 11 ∷ 12 ∷ 13 ∷ []) ∷
    (4 ∷ 5 ∷ 8 ∷ 9 ∷ 17 ∷ 16 ∷ 15 ∷ 14 ∷ []) ∷
    (6 ∷ 7 ∷ 19 ∷ 18 ∷ 26 ∷ 27 ∷ 28 ∷ 29 ∷ []) ∷
    (20 ∷ 21 ∷ 24 ∷ 25 ∷ 30 ∷ 31 ∷ 32 ∷ 33 ∷ []) ∷
    (22 ∷ 23 ∷ 34 ∷ 35 ∷ 42 ∷ 43 ∷ 44 ∷ 45 ∷ []) ∷
    (36 ∷ 37 ∷ 40 ∷ 41 ∷ 46 ∷ 47 ∷ 48 ∷ 49 ∷ []) ∷
    (38 ∷ 39 ∷ 50 ∷ 51 ∷ 56 ∷ 57 ∷ 58 ∷ 59 ∷ []) ∷
    (52 ∷ 53 ∷ 54 ∷ 55 ∷ 60 ∷ 61 ∷ 62 ∷ 63 ∷ []) ∷
    []

unfoldable pub alt_vertical : List (List ℕ)
alt_vertical =
    (0 ∷ 4 ∷ 6 ∷ 20 ∷ 22 ∷ 36 ∷ 38 ∷ 52 ∷ []) ∷
    (1 ∷ 5 ∷ 7 ∷ 21 ∷ 23 ∷ 37 ∷ 39 ∷ 53 ∷ []) ∷
    (2 ∷ 8 ∷ 19 ∷ 24 ∷ 34 ∷ 40 ∷ 50 ∷ 54 ∷ []) ∷
    (3 ∷ 9 ∷ 18 ∷ 25 ∷ 35 ∷ 41 ∷ 51 ∷ 55 ∷ []) ∷
    (10 ∷ 17 ∷ 26 ∷ 30 ∷ 42 ∷ 46 ∷ 56 ∷ 60 ∷ []) ∷
    (11 ∷ 16 ∷ 27 ∷ 31 ∷ 43 ∷ 47 ∷ 57 ∷ 61 ∷ []) ∷
    (12 ∷ 15 ∷ 28 ∷ 32 ∷ 44 ∷ 48 ∷ 58 ∷ 62 ∷ []) ∷
    (13 ∷ 14 ∷ 29 ∷ 33 ∷ 45 ∷ 49 ∷ 59 ∷ 63 ∷ []) ∷
    []

unfoldable pub zigzag : List (List ℕ)
zigzag =
    (0 ∷ 1 ∷ 5 ∷ 6 ∷ 14 ∷ 15 ∷ 27 ∷ 28 ∷ []) ∷
    (2 ∷ 4 ∷ 7 ∷ 13 ∷ 16 ∷ 26 ∷ 29 ∷ 42 ∷ []) ∷
    (3 ∷ 8 ∷ 12 ∷ 17 ∷ 25 ∷ 30 ∷ 41 ∷ 43 ∷ []) ∷
    (9 ∷ 11 ∷ 18 ∷ 24 ∷ 31 ∷ 40 ∷ 44 ∷ 53 ∷ []) ∷
    (10 ∷ 19 ∷ 23 ∷ 32 ∷ 39 ∷ 45 ∷ 52 ∷ 54 ∷ []) ∷
    (20 ∷ 22 ∷ 33 ∷ 38 ∷ 46 ∷ 51 ∷ 55 ∷ 60 ∷ []) ∷
    (21 ∷ 34 ∷ 37 ∷ 47 ∷ 50 ∷ 56 ∷ 59 ∷ 61 ∷ []) ∷
    (35 ∷ 36 ∷ 48 ∷ 49 ∷ 57 ∷ 58 ∷ 62 ∷ 63 ∷ []) ∷
    []

-- by the scan's number: 0 alternate horizontal, 1 alternate vertical, 2 zigzag
unfoldable pub grid_of : ℕ → List (List ℕ)
grid_of s = cond (eqb s 0) alt_horizontal (cond (eqb s 1) alt_vertical zigzag)

-- the scan number of an inter block's scan: alternate vertical where interlaced and alternate scan are both set, else zigzag
abbrev pub inter_scan : Bool → Bool → ℕ
inter_scan interlaced alternate = cond (interlaced && alternate) 1 2

-- a grid's entry at place p, counted by rows: the scan place of what stands there
abbrev pub entry_at : List (List ℕ) → ℕ → ℕ
entry_at g p = get_or (get_or g (p / 8) []) (p % 8) 0

-- the first of n places from p on, counted by rows, whose entry is k
abbrev pub seek : List (List ℕ) → ℕ → ℕ → ℕ → ℕ
seek g k p zero = p
seek g k p (suc n) = cond (eqb (entry_at g p) k) p (seek g k (suc p) n)

-- the place, counted by rows, of scan place k
abbrev pub scan_place_of : List (List ℕ) → ℕ → ℕ
scan_place_of g k = seek g k 0 64

-- levels by rows, put into scan order
unfoldable pub scanned : List (List ℕ) → List ℤ → List ℤ
scanned g levels = tabulate 64 (λ k. get_or levels (scan_place_of g k) (pos 0))

-- levels in scan order, put back by rows
unfoldable pub unscanned : List (List ℕ) → List ℤ → List ℤ
unscanned g levels = tabulate 64 (λ p. get_or levels (entry_at g p) (pos 0))

-- each of 0..63 stands in the grid, and at one place only
pub record Permutes (g : List (List ℕ)) : Type 0 where
  pub entry_below : (p : ℕ) → p < 64 → entry_at g p < 64
  pub place-below : (k : ℕ) → k < 64 → scan_place_of g k < 64
  pub there : (p : ℕ) → p < 64 → scan_place_of g (entry_at g p) ≡ p
  pub back : (k : ℕ) → k < 64 → entry_at g (scan_place_of g k) ≡ k

-- scan and inverse scan undo each other
pub record Returns (s : ℕ) : Type 0 where
  pub by_rows : (levels : List ℤ) → length levels ≡ 64 → unscanned (grid_of s) (scanned (grid_of s) levels) ≡ levels
  pub by_scan : (levels : List ℤ) → length levels ≡ 64 → scanned (grid_of s) (unscanned (grid_of s) levels) ≡ levels
