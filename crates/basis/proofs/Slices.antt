-- Parts of a list, in the shape that the code's `&s[a..a + n]` gives them. Assumes nothing.
use Prim.Native.Nat.{ℕ, ◌+◌, ◌-◌, ◌<◌, ◌≤◌}
use native.Mathlib.Omega.{arith}
use mathlib.Core.Path.{◌≡◌, sym, ap, ap₂, ◌∙◌}
use mathlib.Core.List.{List, ◌++◌, append_assoc, append-nil}
use lib.ListN.{length, get_or, take, drop, length-append, length-take, length-drop, drop_of_length-le}
use lib.Seq.{get_or-take, get_or-drop, take_at, length-take-le}
use Rattle.basis.specs.Lists.{tabulate}
use Rattle.basis.proofs.Lists.{tabulate_cong, tabulate_same}

pub part_count : (a n : ℕ) → a + n - a ≡ n
part_count a n = omega arith

module _ {A : Type 0} (l : List A) (a n : ℕ) where
  pub part_is : take (a + n - a) (drop a l) ≡ take n (drop a l)
  part_is = ap (λ (m : ℕ). take m (drop a l)) (part_count a n)

  pub part_at : (i : ℕ) (d : A) → i < n → get_or (take (a + n - a) (drop a l)) i d ≡ get_or l (a + i) d
  part_at i d h = ap (λ (t : List A). get_or t i d) part_is ∙ get_or-take n (drop a l) i d h ∙ get_or-drop a l i d

  pub part_length : a + n ≤ length l → length (take (a + n - a) (drop a l)) ≡ n
  part_length h = ap length part_is ∙ length-take n (drop a l) ∙ omega (arith, length-drop a l)

  -- a part is the list of what stands there
  pub part_tabulate : (f : ℕ → A) (d : A) → a + n ≤ length l → ((i : ℕ) → i < n → get_or l (a + i) d ≡ f i) → take (a + n - a) (drop a l) ≡ tabulate n f
  part_tabulate f d h e =
      sym (tabulate_same n (take (a + n - a) (drop a l)) d (part_length h))
      ∙ tabulate_cong n (λ i. get_or (take (a + n - a) (drop a l)) i d) f (λ i p. part_at i d p ∙ e i p)

-- parts that are lent, and what comes back
module _ {A : Type 0} where
  -- a list whose first part is x lends the part after it, which comes back as y; then its rest, which comes back as z
  pub put_after : (x l y : List A) (a e : ℕ) → length x ≡ a → a + length y ≡ e → take e (take a (x ++ l) ++ (y ++ drop (e - a) (drop a (x ++ l)))) ≡ x ++ y
  put_after x l y a e h k =
      ap (λ (t : List A). take e (t ++ (y ++ drop (e - a) (drop a (x ++ l))))) (take_at x l a h)
      ∙ ap (take e) (sym (append_assoc x y (drop (e - a) (drop a (x ++ l)))))
      ∙ take_at (x ++ y) (drop (e - a) (drop a (x ++ l))) e (length-append x y ∙ omega arith)

  pub put_rest : (l x z : List A) (e : ℕ) → take e l ≡ x → take e l ++ (z ++ drop (length l - e) (drop e l)) ≡ x ++ z
  put_rest l x z e h =
      ap₂ (λ (p q : List A). p ++ (z ++ q)) h (drop_of_length-le (drop e l) {i = length l - e} (omega (arith, length-drop e l)))
      ∙ ap (λ (q : List A). x ++ q) (append-nil z)

  -- a list lends its first part, which comes back as x, and then its rest, which comes back as a list of f
  pub put_two : (l x y z : List A) (a : ℕ) (f : ℕ → A) → y ≡ x → length x ≡ a
      → z ≡ tabulate (length (take (length (y ++ drop a l) - a) (drop a (y ++ drop a l)))) f
      → take a (y ++ drop a l) ++ (z ++ drop (length (y ++ drop a l) - a) (drop a (y ++ drop a l))) ≡ x ++ tabulate (length l - a) f
  put_two l x y z a f ey h ez =
      put_rest (y ++ drop a l) y z a (take_at y (drop a l) a (ap length ey ∙ h))
      ∙ ap₂ (λ (p q : List A). p ++ q) ey (ez ∙ ap (λ (n : ℕ). tabulate n f) count)
    where
      count : length (take (length (y ++ drop a l) - a) (drop a (y ++ drop a l))) ≡ length l - a
      count =
          length-take (length (y ++ drop a l) - a) (drop a (y ++ drop a l))
          ∙ omega (arith, length-drop a (y ++ drop a l), length-append y (drop a l), length-drop a l, ap length ey)

  -- a list keeps its length where what comes back is as long as what was lent
  pub put_length : (l y : List A) (a e : ℕ) → a + length y ≡ e → e ≤ length l → length (take a l ++ (y ++ drop (e - a) (drop a l))) ≡ length l
  put_length l y a e h k =
      let p : length (take a l) ≡ a = length-take-le a l (omega arith) in
      let q : length (drop (e - a) (drop a l)) ≡ length l - a - (e - a) = length-drop (e - a) (drop a l) ∙ ap (λ (n : ℕ). n - (e - a)) (length-drop a l) in
      length-append (take a l) (y ++ drop (e - a) (drop a l))
      ∙ ap₂ (λ (m n : ℕ). m + n) p (length-append y (drop (e - a) (drop a l)) ∙ ap (λ (n : ℕ). length y + n) q) ∙ omega arith
