-- Reading the events of a block's levels gives the levels back. Assumes nothing.
use Prim.Native.Nat.{ℕ, zero, suc, ◌+◌, ◌-◌}
use native.Mathlib.Nat.{zero-add}
use native.Mathlib.Omega.{arith}
use mathlib.Core.Bool.{Bool, true, false}
use mathlib.Core.List.{List, [], ◌∷◌, ◌++◌, map, append_assoc}
use mathlib.Core.Path.{◌≡◌, refl, sym, ap, ◌∙◌}
use borrow.Author.Tests.{eqb-true}
use lib.IntN.{ℤ, pos, negsuc}
use lib.ListN.{length, set, replicate, length-append, length-replicate, get_or-replicate, replicate-append-replicate}
use lib.Seq.{set_at, append_snoc}
use Rattle.basis.proofs.Case.{then, else}
use Rattle.basis.proofs.Lists.{tabulate_cong, tabulate_const}
use Rattle.scan.specs.Event.{Event, is_zero, events_after, events_of, marks, area, lasts_area, runs_area, levels_area}
use Rattle.scan.specs.Read.{read_from, read_events, ReadsBack, BlockReadsBack}
use Rattle.scan.specs.Grid.{grid_of, entry_at, scan_place_of, scanned, unscanned}
use Rattle.scan.proofs.Grids.{length-scanned, permutes, returns}

abbrev zeros : ℕ → List ℤ
zeros n = replicate n (pos 0)

abbrev runs_of : List Event → List ℕ
runs_of es = map (λ (e : Event). e.run) es

abbrev values_of : List Event → List ℤ
values_of es = map (λ (e : Event). e.level) es

pub is_zero_lem : (x : ℤ) → is_zero x ≡ true → x ≡ pos 0
is_zero_lem (pos n) e = ap pos (eqb-true n 0 e)
is_zero_lem (negsuc n) e = absurd (never (cc))
  where
    never : ◌≡◌ {A = ℕ} 0 1 → ⊥
    never z = omega arith

-- a store r places past what is read
put : (pre : List ℤ) (r m : ℕ) (x : ℤ) → set (pre ++ zeros (r + suc m)) (length pre + r) x ≡ (pre ++ zeros r) ++ (x ∷ zeros m)
put pre r m x =
    ap
    (λ (l : List ℤ). set l (length pre + r) x)
    (ap (λ (l : List ℤ). pre ++ l) (sym (replicate-append-replicate r (suc m) (pos 0))) ∙ sym (append_assoc pre (zeros r) (zeros (suc m))))
    ∙ set_at (pre ++ zeros r) (pos 0) (zeros m) x (length pre + r) (length-append pre (zeros r) ∙ ap (λ (n : ℕ). length pre + n) (length-replicate r (pos 0)))

-- one zero more before what follows
zero_more : (r : ℕ) (xs : List ℤ) → zeros (suc r) ++ xs ≡ zeros r ++ (pos 0 ∷ xs)
zero_more zero xs = refl
zero_more (suc r) xs = ap (λ (l : List ℤ). pos 0 ∷ l) (zero_more r xs)

-- a block with its first level apart, by the test of that level
module _ (r : ℕ) (x : ℤ) (xs : List ℤ) where
  skip : is_zero x ≡ true → events_after r (x ∷ xs) ≡ events_after (suc r) xs
  skip z = then _ _ _ z

  take : is_zero x ≡ false → events_after r (x ∷ xs) ≡ record { run = r; level = x } ∷ events_after 0 xs
  take z = else _ _ _ z

-- no events: every level is 0
all_zero : (r : ℕ) (xs : List ℤ) → events_after r xs ≡ [] → xs ≡ zeros (length xs)
all_zero r [] e = refl
all_zero r (x ∷ xs) e = by (λ f. all_zero (suc r) xs f) (is_zero x) refl
  where
    never : ◌≡◌ {A = ℕ} 0 1 → ⊥
    never z = omega arith

    by : (events_after (suc r) xs ≡ [] → xs ≡ zeros (length xs)) → (t : Bool) → is_zero x ≡ t → x ∷ xs ≡ zeros (suc (length xs))
    by less true z = ap (λ (y : ℤ). y ∷ xs) (is_zero_lem x z) ∙ ap (λ (l : List ℤ). pos 0 ∷ l) (less (sym (skip r x xs z) ∙ e))
    by less false z = let w = sym (take r x xs z) ∙ e in absurd (never (cc))

module _ (a b : List ℕ) (d : List ℤ) where
  reads : List Event → ℕ → List ℤ → List ℤ
  reads es n block = read_from n (marks (length es) ++ a) (runs_of es ++ b) (values_of es ++ d) block

  -- after what was read before and a run of r zeros, the events of xs put xs there
  abbrev PutBack : List ℤ → ℕ → List ℤ → Type 0
  PutBack xs r pre = reads (events_after r xs) (length pre) (pre ++ zeros (r + length xs)) ≡ pre ++ (zeros r ++ xs)

  back : (xs : List ℤ) (r : ℕ) (pre : List ℤ) → (events_after r xs ≡ [] → ⊥) → PutBack xs r pre
  unfolding reads
  back [] r pre some = absurd (some refl)
  back (x ∷ xs) r pre some = by (λ r pre some. back xs r pre some) (is_zero x) refl
    where
      by : ((r : ℕ) (pre : List ℤ) → (events_after r xs ≡ [] → ⊥) → PutBack xs r pre) → (t : Bool) → is_zero x ≡ t → PutBack (x ∷ xs) r pre
      by less true z =
          ap (λ (es : List Event). reads es (length pre) (pre ++ zeros (r + suc (length xs)))) (skip r x xs z)
          ∙ ap (λ (n : ℕ). reads (events_after (suc r) xs) (length pre) (pre ++ zeros n)) more
          ∙ less (suc r) pre (λ e. some (skip r x xs z ∙ e))
          ∙ ap (λ (l : List ℤ). pre ++ l) (zero_more r xs ∙ ap (λ (y : ℤ). zeros r ++ (y ∷ xs)) (sym (is_zero_lem x z)))
        where
          more : r + suc (length xs) ≡ suc r + length xs
          more = omega arith
      by less false z =
          ap (λ (es : List Event). reads es (length pre) (pre ++ zeros (r + suc (length xs)))) (take r x xs z)
          ∙ rest (events_after 0 xs) refl
        where
          long : length pre + r + 1 ≡ length ((pre ++ zeros r) ++ (x ∷ []))
          long =
              sym
              (length-append (pre ++ zeros r) (x ∷ [])
              ∙ ap (λ (n : ℕ). n + 1) (length-append pre (zeros r) ∙ ap (λ (n : ℕ). length pre + n) (length-replicate r (pos 0))))

          rest : (l : List Event) → events_after 0 xs ≡ l
              → reads (record { run = r; level = x } ∷ l) (length pre) (pre ++ zeros (r + suc (length xs))) ≡ pre ++ (zeros r ++ (x ∷ xs))
          rest [] e =
              put pre r (length xs) x
              ∙ append_assoc pre (zeros r) (x ∷ zeros (length xs))
              ∙ ap (λ (l : List ℤ). pre ++ (zeros r ++ (x ∷ l))) (sym (all_zero 0 xs e))
          rest (f ∷ l) e =
              let seen = (pre ++ zeros r) ++ (x ∷ []) in
              let stored = put pre r (length xs) x ∙ sym (append_snoc (pre ++ zeros r) x (zeros (length xs))) in
              ap (λ (block : List ℤ). reads (f ∷ l) (length pre + r + 1) block) stored
              ∙ ap (λ (n : ℕ). reads (f ∷ l) n (seen ++ zeros (length xs))) long
              ∙ ap (λ (es : List Event). reads es (length seen) (seen ++ zeros (length xs))) (sym e)
              ∙ ap (λ (n : ℕ). reads (events_after 0 xs) (length seen) (seen ++ zeros n)) (sym (zero-add (length xs)))
              ∙ less 0 seen (λ g. absurd (never (clash g)))
              ∙ append_snoc (pre ++ zeros r) x xs
              ∙ append_assoc pre (zeros r) (x ∷ xs)
            where
              never : ◌≡◌ {A = ℕ} 0 1 → ⊥
              never z = omega arith

              clash : events_after 0 xs ≡ [] → ◌≡◌ {A = ℕ} 0 1
              clash g = let w = sym g ∙ e in cc

-- a block's areas, by its events
areas_of_lem : List Event → List ℤ
areas_of_lem es = read_events (area 0 (marks (length es))) (area 0 (runs_of es)) (area (pos 0) (values_of es))

-- where there is an event, and where there is none
read_some : (xs : List ℤ) → length xs ≡ 64 → (events_of xs ≡ [] → ⊥) → areas_of_lem (events_of xs) ≡ xs
unfolding reads areas_of_lem
read_some xs full some =
    let es = events_of xs in
    ap (λ (n : ℕ). read_from 0 (area 0 (marks (length es))) (area 0 (runs_of es)) (area (pos 0) (values_of es)) (zeros n)) (sym (zero-add (length xs) ∙ full))
    ∙ back (replicate (64 - length (marks (length es))) 0) (replicate (64 - length (runs_of es)) 0) (replicate (64 - length (values_of es)) (pos 0)) xs 0 [] some

read_none : (xs : List ℤ) → length xs ≡ 64 → events_of xs ≡ [] → areas_of_lem (events_of xs) ≡ xs
unfolding areas_of_lem
read_none xs full none = ap areas_of_lem none ∙ sym (all_zero 0 xs none ∙ ap zeros full)

-- zeros have no event
no_event : (r n : ℕ) → events_after r (zeros n) ≡ []
no_event r zero = refl
no_event r (suc n) = no_event (suc r) n

none_of : (es : List Event) → length es ≡ 0 → es ≡ []
none_of [] e = refl
none_of (x ∷ es) e = absurd (omega arith)

pub reads_back : (levels : List ℤ) → length levels ≡ 64 → ReadsBack levels (lasts_area levels) (runs_area levels) (levels_area levels) (length (events_of levels))
unfolding areas_of_lem lasts_area runs_area levels_area
reads_back levels full =
    record {
      same = by (events_of levels) refl;
      none = λ e. ap (λ (l : List ℤ). length (events_of l)) e ∙ ap length (no_event 0 64);
      empty = λ e. all_zero 0 levels (none_of (events_of levels) e) ∙ ap zeros full;
    }
  where
    never : ◌≡◌ {A = ℕ} 0 1 → ⊥
    never z = omega arith

    by : (es : List Event) → events_of levels ≡ es → areas_of_lem (events_of levels) ≡ levels
    by [] e = read_none levels full e
    by (x ∷ es) e = read_some levels full (λ n. never (clash n))
      where
        clash : events_of levels ≡ [] → ◌≡◌ {A = ℕ} 0 1
        clash n = let w = sym n ∙ e in cc

-- zeros are zeros in either order
zeros_scanned : (s : ℕ) → scanned (grid_of s) (zeros 64) ≡ zeros 64
unfolding scanned
zeros_scanned s =
    tabulate_cong 64 _ (λ _. pos 0) (λ k h. get_or-replicate 64 (scan_place_of (grid_of s) k) (pos 0) (pos 0) ((permutes s).place-below k h))
    ∙ tabulate_const 64 (pos 0)

zeros_unscanned : (s : ℕ) → unscanned (grid_of s) (zeros 64) ≡ zeros 64
unfolding unscanned
zeros_unscanned s =
    tabulate_cong 64 _ (λ _. pos 0) (λ p h. get_or-replicate 64 (entry_at (grid_of s) p) (pos 0) (pos 0) ((permutes s).entry_below p h))
    ∙ tabulate_const 64 (pos 0)

pub block_reads_back : (s : ℕ) (levels : List ℤ) → length levels ≡ 64 → BlockReadsBack s levels
block_reads_back s levels full =
    let back = reads_back (scanned (grid_of s) levels) (length-scanned (grid_of s) levels) in
    record {
      same = ap (unscanned (grid_of s)) back.same ∙ (returns s).by_rows levels full;
      none = λ e. back.none (ap (scanned (grid_of s)) e ∙ zeros_scanned s);
      empty = λ e. sym ((returns s).by_rows levels full) ∙ ap (unscanned (grid_of s)) (back.empty e) ∙ zeros_unscanned s;
    }
