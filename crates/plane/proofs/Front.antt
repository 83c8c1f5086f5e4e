-- A list that is copied over another from the front, part by part. Assumes nothing.
use Prim.Native.Nat.{ℕ, ◌+◌, ◌-◌, ◌≤◌}
use native.Mathlib.Omega.{arith}
use mathlib.Core.Path.{◌≡◌, sym, ap, ap₂, ◌∙◌}
use mathlib.Core.List.{List, ◌++◌, append_assoc}
use lib.ListN.{length, take, drop, length-drop, take-append-drop}
use lib.Seq.{length-take-le, take_all, take_at, drop_at, take-append-le, take-take, take-add, drop-drop}
use Rattle.basis.proofs.Slices.{part_count, part_is, put_rest}

-- the first n entries of a list, and then what stood in the other
abbrev pub fronted : ℕ → List ℕ → List ℕ → List ℕ
fronted n from l = take n from ++ drop n l

-- the next n as well
pub front_more : (from l out y : List ℕ) (a n : ℕ) → a + n ≤ length from → out ≡ fronted a from l → y ≡ take (a + n - a) (drop a from)
    → take a out ++ (y ++ drop (a + n - a) (drop a out)) ≡ fronted (a + n) from l
front_more from l out y a n h p q =
    ap₂ (λ (o z : List ℕ). take a o ++ (z ++ drop (a + n - a) (drop a o))) p (q ∙ part_is from a n)
    ∙ ap₂ (λ (s t : List ℕ). s ++ (take n (drop a from) ++ drop (a + n - a) t))
    (take_at (take a from) (drop a l) a here) (drop_at (take a from) (drop a l) a here)
    ∙ ap (λ (t : List ℕ). take a from ++ (take n (drop a from) ++ t)) (ap (λ (m : ℕ). drop m (drop a l)) (part_count a n) ∙ drop-drop n a l)
    ∙ sym (append_assoc (take a from) (take n (drop a from)) (drop (a + n) l))
    ∙ ap (λ (s : List ℕ). s ++ drop (a + n) l) (sym (take-add a n from))
  where
    here : length (take a from) ≡ a
    here = length-take-le a from (omega arith)

-- and all of it, where the rest comes from a place within what is copied
pub front_end : (from l out y : List ℕ) (a last : ℕ) → last ≤ a → a ≤ length from → out ≡ fronted a from l → y ≡ take (length from - last) (drop last from)
    → take last out ++ (y ++ drop (length out - last) (drop last out)) ≡ from
front_end from l out y a last h k p q =
    put_rest out (take last from) y last (ap (take last) p ∙ take-append-le last (take a from) (drop a l) within ∙ take-take last a from h)
    ∙ ap (λ (z : List ℕ). take last from ++ z) (q ∙ take_all (length from - last) (drop last from) (omega (arith, length-drop last from)))
    ∙ take-append-drop last from
  where
    within : last ≤ length (take a from)
    within = omega (arith, length-take-le a from k)
