-- Texts that grow while there is room, and that one with room for all its bytes holds them. Assumes nothing.
use Prim.Native.Nat.{ℕ, ◌+◌, ◌≤◌, min}
use native.Mathlib.Omega.{arith}
use mathlib.Core.List.{List, [], ◌∷◌, ◌++◌, append-nil, append_assoc}
use mathlib.Core.Path.{◌≡◌, refl, sym, ap, ◌∙◌}
use lib.Dec.{ltb}
use lib.ListN.{length, take, drop, length-append, take-append-drop}
use borrow.Author.Tests.{lt-ltb, le-ltb}
use Rattle.std.proofs.lemmas.List.{length-take, drop_all}
use Rattle.basis.proofs.Case.{then, else, either}
use Rattle.clip.specs.ToldPush.{pushed, pushes}

pub pushes-append : (t a b : List ℕ) → pushes t (a ++ b) ≡ pushes (pushes t a) b
unfolding pushes
pushes-append t [] b = refl
pushes-append t (x ∷ a) b = pushes-append (pushed t x) a b

-- bytes that have room are held, each and in order
all_more : (t l : List ℕ) → length t + length l ≤ 198 → pushes t l ≡ t ++ l
unfolding pushes pushed
all_more t [] h = sym (append-nil t)
all_more t (b ∷ l) h =
    ap (λ (x : List ℕ). pushes x l) (then (ltb (length t) 198) _ _ (lt-ltb (length t) 198 (omega arith)))
    ∙ all_more (t ++ (b ∷ [])) l (omega (arith, length-append t (b ∷ [])))
    ∙ append_assoc t (b ∷ []) l

pub pushes_text : (l : List ℕ) → length l ≤ 198 → pushes [] l ≡ l
pushes_text l h = all_more [] l (omega arith)

-- and none where there is no room
no_more : (t l : List ℕ) → 198 ≤ length t → pushes t l ≡ t
unfolding pushes pushed
no_more t [] h = refl
no_more t (b ∷ l) h =
    ap (λ (x : List ℕ). pushes x l) (else (ltb (length t) 198) _ _ (le-ltb (length t) 198 h)) ∙ no_more t l h

-- what is left over finds no room
rest : (t s : List ℕ) (k n : ℕ) → k + length t ≡ 198 → n ≡ min (length s) k → pushes (t ++ take n s) (drop n s) ≡ t ++ take n s
unfolding pushes
rest t s k n h e =
    either (pushes (t ++ take n s) (drop n s) ≡ t ++ take n s) (length s) n
    (λ w. ap (pushes (t ++ take n s)) (drop_all n s w))
    (λ w. no_more (t ++ take n s) (drop n s) (simp (length-append, length-take) (omega (arith, e))))

-- as many bytes as there is room for
pub room_for : (t s : List ℕ) (k n : ℕ) → k + length t ≡ 198 → n ≡ min (length s) k
    → (length t + length (take n s) ≤ 198) × (t ++ take n s ≡ pushes t s)
room_for t s k n h e =
    let room : length t + length (take n s) ≤ 198 = simp length-take (omega (arith, e)) in (
      room,
      sym (ap (pushes t) (sym (take-append-drop n s))
          ∙ pushes-append t (take n s) (drop n s)
          ∙ ap (λ (x : List ℕ). pushes x (drop n s)) (all_more t (take n s) room)
          ∙ rest t s k n h e),
    )
