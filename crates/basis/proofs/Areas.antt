-- Areas that are filled from the front with a rest of one value, and maps that grow at the end. Assumes nothing.
use Prim.Native.Nat.{ℕ, zero, suc, ◌+◌, ◌-◌, ◌<◌, ◌≤◌}
use native.Mathlib.Omega.{arith}
use mathlib.Core.List.{List, [], ◌∷◌, ◌++◌, map}
use mathlib.Core.Path.{◌≡◌, refl, sym, ap, ◌∙◌}
use lib.ListN.{length, get_or, set, replicate, length-append, length-replicate}
use lib.Seq.{set-append_seam, append_snoc}

module _ {X : Type 0} where
  pub map_snoc : {Y : Type 0} (f : X → Y) (xs : List X) (x : X) → map f (xs ++ (x ∷ [])) ≡ map f xs ++ (f x ∷ [])
  map_snoc f [] x = refl
  map_snoc {Y} f (y ∷ xs) x = ap (λ (t : List Y). f y ∷ t) (map_snoc f xs x)

  -- n places that start with xs, the rest d
  pub pad_length : (n : ℕ) (d : X) (xs : List X) → length xs ≤ n → length (xs ++ replicate (n - length xs) d) ≡ n
  pad_length n d xs h =
      length-append xs (replicate (n - length xs) d) ∙ ap (λ (m : ℕ). length xs + m) (length-replicate (n - length xs) d) ∙ back
    where
      back : length xs + (n - length xs) ≡ n
      back = omega arith

  -- a store at the first place of the rest
  pub pad_more : (n : ℕ) (d v : X) (xs : List X) → length xs < n
      → set (xs ++ replicate (n - length xs) d) (length xs) v ≡ (xs ++ (v ∷ [])) ++ replicate (n - length (xs ++ (v ∷ []))) d
  pad_more n d v xs h =
      ap (λ (m : ℕ). set (xs ++ replicate m d) (length xs) v) one
      ∙ set-append_seam xs d (replicate (n - suc (length xs)) d) v
      ∙ sym (append_snoc xs v (replicate (n - suc (length xs)) d))
      ∙ ap (λ (m : ℕ). (xs ++ (v ∷ [])) ++ replicate (n - m) d) (sym (length-append xs (v ∷ []) ∙ plus))
    where
      one : n - length xs ≡ suc (n - suc (length xs))
      one = omega arith

      plus : length xs + 1 ≡ suc (length xs)
      plus = omega arith

  -- past what it starts with there is the rest
  rest_at : (m k : ℕ) (d : X) → get_or (replicate m d) k d ≡ d
  rest_at zero k d = refl
  rest_at (suc m) zero d = refl
  rest_at (suc m) (suc k) d = rest_at m k d

  pub pad_past : (xs : List X) (m k : ℕ) (d : X) → length xs ≤ k → get_or (xs ++ replicate m d) k d ≡ d
  pad_past [] m k d h = rest_at m k d
  pad_past (x ∷ xs) m zero d h = absurd (omega arith)
  pad_past (x ∷ xs) m (suc k) d h = pad_past xs m k d (omega arith)
