-- Events of a block's levels in scan order (rules E5 to E7): each a run of zeros and the non-zero level after it.
use Rattle.std.specs.Prelude.{ℕ, zero, suc, ◌-◌, Bool, false, cond, List, [], ◌∷◌, ◌++◌, map, eqb, ℤ, pos, negsuc, length, replicate}

pub record Event : Type 0 where
  pub run : ℕ
  pub level : ℤ

abbrev pub is_zero : ℤ → Bool
is_zero (pos n) = eqb n 0
is_zero (negsuc n) = false

-- the events of the levels, after a run of r zeros
abbrev pub events_after : ℕ → List ℤ → List Event
events_after r [] = []
events_after r (x ∷ xs) = cond (is_zero x) (events_after (suc r) xs) (record { run = r; level = x } ∷ events_after 0 xs)

abbrev pub events_of : List ℤ → List Event
events_of levels = events_after 0 levels

-- 1 for the final one of n events, and 0 for each before it
abbrev pub marks : ℕ → List ℕ
marks zero = []
marks (suc n) = replicate n 0 ++ (1 ∷ [])

-- an area of 64 that starts with xs, the rest d
abbrev pub area {ℓ} : {X : Type ℓ} → X → List X → List X
area d xs = xs ++ replicate (64 - length xs) d

-- the three areas of a block: which event is the last, the runs, the levels
unfoldable pub lasts_area : List ℤ → List ℕ
lasts_area levels = area 0 (marks (length (events_of levels)))

unfoldable pub runs_area : List ℤ → List ℕ
runs_area levels = area 0 (map (λ (e : Event). e.run) (events_of levels))

unfoldable pub levels_area : List ℤ → List ℤ
levels_area levels = area (pos 0) (map (λ (e : Event). e.level) (events_of levels))
