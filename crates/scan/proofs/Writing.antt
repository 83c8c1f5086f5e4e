-- Writing events, a turn at a time: what holds of the areas after i levels, and that each kind of turn keeps it. Assumes nothing.
use Prim.Native.Nat.{ℕ, zero, suc, ◌+◌, ◌-◌, ◌≤◌, ◌<◌, ◌^◌}
use native.Mathlib.Nat.{add-zero}
use native.Mathlib.Numerals.{add-one}
use native.Mathlib.Omega.{arith}
use mathlib.Core.Bool.{Bool, true, false, cond, not}
use mathlib.Core.List.{List, [], ◌∷◌, ◌++◌, map, append-nil}
use mathlib.Core.Path.{◌≡◌, refl, sym, ap, ◌∙◌}
use lib.IntN.{ℤ, pos, negsuc}
use lib.ListN.{length, length-set, drop, get_or, set, replicate, length-append, length-map, drop_of_length-le, length-replicate, replicate-append-replicate}
use lib.Seq.{set_out, drop-cons, append_snoc, get_or-set_other, set-get_or, set-set}
use lib.Signed.{mag}
use mir.Syntax.{w32}
use mir.Val.{SFits, to_z, of_z, bool_byte}
use mir.ValLaws.{to_z-of_z}
use lib.Dec.{eqb}
use borrow.Author.Tests.{eq-eqb, ne_eqb}
use Rattle.basis.proofs.Case.{then, else}
use Rattle.scan.specs.Event.{Event, is_zero, events_after, events_of, marks, area, runs_area, levels_area}
use Rattle.scan.proofs.ReadBack.{is_zero_lem}
use Rattle.basis.proofs.Areas.{map_snoc, pad_length, pad_more, pad_past}

-- what  x == 0  says of a signed x, whose test is on its bits
pub zero_bits : (z : ℤ) → mag z < 2 ^ 31 → of_z w32 z ≡ 0 → is_zero z ≡ true
zero_bits (pos n) h e = eq-eqb n 0 e
zero_bits (negsuc n) h e = absurd (none n h e)
  where
    none : (n : ℕ) → n < 2 ^ 31 → 2 ^ 32 - suc n ≡ 0 → ⊥
    none n h e = omega arith

pub not_zero_bits : (z : ℤ) → (of_z w32 z ≡ 0 → ⊥) → is_zero z ≡ false
not_zero_bits (pos n) e = ne_eqb n 0 e
not_zero_bits (negsuc n) e = refl

-- after i levels: es are the events so far, and `run` zeros follow the last of them
pub record WrittenSoFar (levels : List ℤ) (runs : List ℕ) (values : List ℤ) (count run i : ℕ) : Type 0 where
  at : i ≤ 64
  room : run + count ≤ i
  es : List Event
  told : events_of levels ≡ es ++ events_after run (drop i levels)
  counted : count ≡ length es
  runs_are : runs ≡ area 0 (map (λ (e : Event). e.run) es)
  values_are : values ≡ area (pos 0) (map (λ (e : Event). e.level) es)

pub started : (levels : List ℤ) {runs : List ℕ} {values : List ℤ} → runs ≡ replicate 64 0 → values ≡ replicate 64 (pos 0)
    → WrittenSoFar levels runs values 0 0 0
started levels e f = record { at = omega arith; room = omega arith; es = []; told = refl; counted = refl; runs_are = e; values_are = f }

-- a store at the first free place
stored : {X : Type 0} (f : Event → X) (d : X) (xs : List X) (es : List Event) (e : Event) (k : ℕ)
    → k < 64 → k ≡ length es → xs ≡ area d (map f es) → set xs k (f e) ≡ area d (map f (es ++ (e ∷ [])))
stored {X} f d xs es e k room here is =
    let long : k ≡ length (map f es) = here ∙ sym (length-map es f) in
    ap (λ (l : List X). set l k (f e)) is
    ∙ ap (λ (n : ℕ). set (area d (map f es)) n (f e)) long
    ∙ pad_more 64 d (f e) (map f es) (omega arith)
    ∙ ap (area d) (sym (map_snoc f es e))

module _
    {levels : List ℤ} {runs : List ℕ} {values : List ℤ} {count run i : ℕ}
    (full : length levels ≡ 64) (more : i < 64) (w : WrittenSoFar levels runs values count run i) where
  -- what is left, with its first level apart
  next : (r : ℕ) → events_after r (drop i levels) ≡ events_after r (get_or levels i (pos 0) ∷ drop (i + 1) levels)
  next r =
      ap (events_after r) (drop-cons levels i (pos 0) (omega arith) ∙ ap (λ (n : ℕ). get_or levels i (pos 0) ∷ drop n levels) (sym (add-one i)))

  pub zero_turn : is_zero (get_or levels i (pos 0)) ≡ true → WrittenSoFar levels runs values count (run + 1) (i + 1)
  zero_turn z =
      record {
        at = omega arith;
        room = omega arith;
        es = w.es;
        told = w.told
            ∙ ap
            (λ (t : List Event). w.es ++ t)
            (next run ∙ then _ _ _ z ∙ ap (λ (n : ℕ). events_after n (drop (i + 1) levels)) (sym (add-one run)));
        counted = w.counted;
        runs_are = w.runs_are;
        values_are = w.values_are;
      }

  pub level_turn : is_zero (get_or levels i (pos 0)) ≡ false → WrittenSoFar levels (set runs count run) (set values count (get_or levels i (pos 0))) (count + 1) 0 (i + 1)
  level_turn z =
      let e : Event = record { run = run; level = get_or levels i (pos 0) } in
      let h = w.room in
      record {
        at = omega arith;
        room = omega arith;
        es = w.es ++ (e ∷ []);
        told = w.told
            ∙ ap (λ (t : List Event). w.es ++ t) (next run ∙ else _ _ _ z)
            ∙ sym (append_snoc w.es e (events_after 0 (drop (i + 1) levels)));
        counted = sym (length-append w.es (e ∷ []) ∙ ap (λ (n : ℕ). n + 1) (sym w.counted));
        runs_are = stored (λ (v : Event). v.run) 0 runs w.es e count (omega arith) w.counted w.runs_are;
        values_are = stored (λ (v : Event). v.level) (pos 0) values w.es e count (omega arith) w.counted w.values_are;
      }

-- a store of what is there already
same_set : {X : Type 0} (l : List X) (k : ℕ) (v d : X) → get_or l k d ≡ v → set l k v ≡ l
same_set l k v d e = ap (set l k) (sym e) ∙ set-get_or l k d

-- equal areas and counts
carried : {levels : List ℤ} {runs runs' : List ℕ} {values values' : List ℤ} {count count' run i : ℕ}
    → runs ≡ runs' → values ≡ values' → count ≡ count' → WrittenSoFar levels runs values count run i → WrittenSoFar levels runs' values' count' run i
carried p q r w =
    record {
      at = w.at;
      room = omega (arith, w.room, r);
      es = w.es;
      told = w.told;
      counted = sym r ∙ w.counted;
      runs_are = sym p ∙ w.runs_are;
      values_are = sym q ∙ w.values_are;
    }

-- a turn stores first and counts after, so that the first free place may hold a run that is no event's: with 0 there, all is as above
module _
    (levels : List ℤ) (runs : List ℕ) (values : List ℤ) (count run i : ℕ)
    (full : length levels ≡ 64) (more : i < 64) (w : WrittenSoFar levels (set runs count 0) values count run i) where
  abbrev level : ℤ
  level = get_or levels i (pos 0)

  -- past the events both areas are 0
  free_level : get_or values count (pos 0) ≡ pos 0
  free_level =
      let es = map (λ (e : Event). e.level) w.es in
      ap (λ (l : List ℤ). get_or l count (pos 0)) w.values_are
      ∙ pad_past es (64 - length es) count (pos 0) (omega (arith, w.counted, length-map w.es (λ (e : Event). e.level)))

  free_run : get_or (set runs count run) (count + 1) 0 ≡ 0
  free_run =
      let es = map (λ (e : Event). e.run) w.es in
      let other : count + 1 ≡ count → ⊥ = λ e. omega arith in
      get_or-set_other runs count (count + 1) run 0 other
      ∙ sym (get_or-set_other runs count (count + 1) 0 0 other)
      ∙ ap (λ (l : List ℕ). get_or l (count + 1) 0) w.runs_are
      ∙ pad_past es (64 - length es) (count + 1) 0 (omega (arith, w.counted, length-map w.es (λ (e : Event). e.run)))

  -- what a turn leaves, by whether the level is 0
  abbrev pub Left : Bool → Type 0
  Left z =
      let n = count + cond z 0 1 in
      WrittenSoFar levels (set (set runs count run) n 0) (set values count level) n (cond z (run + 1) 0) (i + 1)

  pub turn : Left (is_zero level)
  turn = by (is_zero level) refl
    where
      by : (z : Bool) → is_zero level ≡ z → Left z
      by true e =
          carried
          (sym (set-set runs count run 0) ∙ ap (λ (n : ℕ). set (set runs count run) n 0) (sym (add-zero count)))
          (sym (same_set values count level (pos 0) (free_level ∙ sym (is_zero_lem level e))))
          (sym (add-zero count))
          (zero_turn full more w e)
      by false e =
          carried
          (set-set runs count 0 run ∙ sym (same_set (set runs count run) (count + 1) 0 0 free_run))
          refl
          refl
          (level_turn full more w e)

module _ {levels : List ℤ} {runs : List ℕ} {values : List ℤ} {count run i : ℕ} (w : WrittenSoFar levels runs values count run i) where
  pub run_room : run + count ≤ i
  run_room = w.room

  pub runs_length : length runs ≡ 64
  runs_length =
      let as_long = length-map w.es (λ (v : Event). v.run) in
      ap length w.runs_are ∙ pad_length 64 0 (map (λ (v : Event). v.run) w.es) (omega (arith, as_long, w.counted, w.room, w.at))

  pub values_length : length values ≡ 64
  values_length =
      let as_long = length-map w.es (λ (v : Event). v.level) in
      ap length w.values_are ∙ pad_length 64 (pos 0) (map (λ (v : Event). v.level) w.es) (omega (arith, as_long, w.counted, w.room, w.at))

  -- after all 64
  pub finished : length levels ≡ 64 → 64 ≤ i → (count ≡ length (events_of levels)) × ((runs ≡ runs_area levels) × (values ≡ levels_area levels))
  unfolding runs_area levels_area
  finished full end =
      let all : w.es ≡ events_of levels =
      sym (w.told ∙ ap (λ (l : List ℤ). w.es ++ events_after run l) (drop_of_length-le levels {i = i} (omega arith)) ∙ append-nil w.es) in (
        w.counted ∙ ap length all,
        (
          w.runs_are ∙ ap (λ (l : List Event). area 0 (map (λ (v : Event). v.run) l)) all,
          w.values_are ∙ ap (λ (l : List Event). area (pos 0) (map (λ (v : Event). v.level) l)) all,
        ),
      )

-- the same with 0 at the first free place of the runs, as the loop keeps it
pub record AfterTurns (levels : List ℤ) (runs : List ℕ) (values : List ℤ) (count run i : ℕ) : Type 0 where
  pub room : run + count ≤ i
  pub at_most : i ≤ 64
  pub runs_long : length runs ≡ 64
  pub values_long : length values ≡ 64
  pub written : WrittenSoFar levels (set runs count 0) values count run i

after_turns : {levels : List ℤ} {runs : List ℕ} {values : List ℤ} {count run i : ℕ}
    → WrittenSoFar levels (set runs count 0) values count run i → AfterTurns levels runs values count run i
after_turns {runs} {count} w = record {
  room = w.room;
  at_most = w.at;
  runs_long = sym (length-set runs count 0) ∙ runs_length w;
  values_long = values_length w;
  written = w;
}

pub no_turns : {levels : List ℤ} {runs : List ℕ} {values : List ℤ} → runs ≡ replicate 64 0 → values ≡ replicate 64 (pos 0)
    → AfterTurns levels runs values 0 0 0
no_turns e f = after_turns (started _ (ap (λ (l : List ℕ). set l 0 0) e) f)

-- a level read as the machine has it, and how many events it is
one_unless_zero : (z : ℤ) → SFits w32 z → bool_byte (not (eqb (of_z w32 z) 0)) ≡ cond (is_zero z) 0 1
one_unless_zero (pos n) f = by (eqb n 0)
  where
    by : (t : Bool) → bool_byte (not t) ≡ cond t 0 1
    by true = refl
    by false = refl
one_unless_zero (negsuc n) f = ap (λ (t : Bool). bool_byte (not t)) (ne_eqb (2 ^ 32 - suc n) 0 (λ e. absurd (omega (arith, f.sfits, e))))

pub next_turn : {levels : List ℤ} {runs : List ℕ} {values : List ℤ} {count run i : ℕ} (one next : ℕ)
    → AfterTurns levels runs values count run i → length levels ≡ 64 → i < 64 → SFits w32 (get_or levels i (pos 0))
    → one ≡ bool_byte (not (eqb (of_z w32 (get_or levels i (pos 0))) 0))
    → next ≡ cond (is_zero (to_z w32 (of_z w32 (get_or levels i (pos 0))))) (run + 1) 0
    → AfterTurns levels (set runs count run) (set values count (to_z w32 (of_z w32 (get_or levels i (pos 0))))) (count + one) next (i + 1)
next_turn {levels} {runs} {values} {count} {run} {i} one next t full more fits o n =
    let level = get_or levels i (pos 0) in
    let read : to_z w32 (of_z w32 level) ≡ level = to_z-of_z w32 level fits in
    let o' : one ≡ cond (is_zero level) 0 1 = o ∙ one_unless_zero level fits in
    let n' : next ≡ cond (is_zero level) (run + 1) 0 = n ∙ ap (λ (z : ℤ). cond (is_zero z) (run + 1) 0) read in
    rw (o', n', read) (after_turns (turn levels runs values count run i full more t.written))

-- after all 64
module _ {levels : List ℤ} {runs : List ℕ} {values : List ℤ} {count run i : ℕ} (t : AfterTurns levels runs values count run i) (full : length levels ≡ 64) (end : 64 ≤ i) where
  pub all_counted : count ≡ length (events_of levels)
  all_counted = (finished t.written full end).0

  pub all_runs : set runs count 0 ≡ runs_area levels
  all_runs = (finished t.written full end).1.0

  -- where no place is left
  pub all_runs_full : 64 ≤ count → runs ≡ runs_area levels
  all_runs_full h = sym (set_out runs count 0 (omega (arith, t.runs_long))) ∙ all_runs

  pub all_values : values ≡ levels_area levels
  all_values = (finished t.written full end).1.1

-- no more events than levels
pub events_length : (r : ℕ) (xs : List ℤ) → length (events_after r xs) ≤ length xs
events_length r [] = omega arith
events_length r (x ∷ xs) = by (events_length (suc r) xs) (events_length 0 xs) (is_zero x) refl
  where
    by : length (events_after (suc r) xs) ≤ length xs → length (events_after 0 xs) ≤ length xs
        → (t : Bool) → is_zero x ≡ t → length (events_after r (x ∷ xs)) ≤ suc (length xs)
    by h k true z = omega (arith, ap length (then (is_zero x) (events_after (suc r) xs) (record { run = r; level = x } ∷ events_after 0 xs) z))
    by h k false z = omega (arith, ap length (else (is_zero x) (events_after (suc r) xs) (record { run = r; level = x } ∷ events_after 0 xs) z))

-- 1 at the last of k places of a cleared area
pub marked : (k : ℕ) → k ≤ 64 → (k ≡ 0 → ⊥) → set (replicate 64 0) (k - 1) 1 ≡ area 0 (marks k)
marked zero h n = absurd (n refl)
marked (suc k) h n =
    ap (λ (l : List ℕ). set l (suc k - 1) 1) (sym (replicate-append-replicate k (64 - k) 0 ∙ ap (λ (m : ℕ). replicate m 0) whole))
    ∙ ap (λ (m : ℕ). set (replicate k 0 ++ replicate (64 - k) 0) m 1) (less ∙ sym (length-replicate k 0))
    ∙ ap (λ (m : ℕ). set (replicate k 0 ++ replicate (64 - m) 0) (length {A = ℕ} (replicate k 0)) 1) (sym (length-replicate k 0))
    ∙ pad_more 64 0 1 (replicate k 0) (omega (arith, length-replicate {A = ℕ} k 0))
  where
    whole : k + (64 - k) ≡ 64
    whole = omega arith

    less : suc k - 1 ≡ k
    less = omega arith
