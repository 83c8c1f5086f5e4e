-- Lines as words that are pushed one after the other. Assumes nothing.
use Prim.Native.Nat.{ℕ, ◌≤◌}
use mathlib.Core.List.{List, [], ◌∷◌, ◌++◌, append-nil, append_assoc}
use mathlib.Core.Path.{◌≡◌, refl, sym, ap, ◌∙◌, subst}
use lib.ListN.{length}
use Rattle.record.specs.declared.Record.{Record}
use Rattle.clip.specs.Decimal.{decimal}
use Rattle.clip.specs.Line.{spaced, concatenated, line_of, macroblock_words}
use Rattle.clip.specs.ToldPush.{pushes}
use Rattle.clip.proofs.Texts.{pushes-append, pushes_text}

spaced-append : (ws vs : List (List ℕ)) → spaced (ws ++ vs) ≡ spaced ws ++ spaced vs
unfolding spaced
spaced-append [] vs = refl
spaced-append (w ∷ ws) vs =
    ap (λ (l : List ℕ). 32 ∷ (w ++ l)) (spaced-append ws vs) ∙ ap (λ (l : List ℕ). 32 ∷ l) (sym (append_assoc w (spaced ws) (spaced vs)))

-- words after words
pub spaced_more : {r u : List ℕ} (t : List ℕ) (ws vs : List (List ℕ))
    → r ≡ pushes u (spaced vs) → u ≡ pushes t (spaced ws) → r ≡ pushes t (spaced (ws ++ vs))
spaced_more {r} {u} t ws vs e f =
    e
    ∙ ap (λ (x : List ℕ). pushes x (spaced vs)) f
    ∙ sym (pushes-append t (spaced ws) (spaced vs))
    ∙ ap (pushes t) (sym (spaced-append ws vs))

concatenated-append : (w : List ℕ) (ws vs : List (List ℕ)) → concatenated (w ∷ (ws ++ vs)) ≡ concatenated (w ∷ ws) ++ spaced vs
unfolding concatenated
concatenated-append w ws vs = ap (λ (l : List ℕ). w ++ l) (spaced-append ws vs) ∙ sym (append_assoc w (spaced ws) (spaced vs))

-- words after those of a line that was begun
pub concatenated_more : {r u : List ℕ} (t : List ℕ) (w : List ℕ) (ws vs : List (List ℕ))
    → r ≡ pushes u (spaced vs) → u ≡ pushes t (concatenated (w ∷ ws)) → r ≡ pushes t (concatenated (w ∷ (ws ++ vs)))
concatenated_more {r} {u} t w ws vs e f =
    e
    ∙ ap (λ (x : List ℕ). pushes x (spaced vs)) f
    ∙ sym (pushes-append t (concatenated (w ∷ ws)) (spaced vs))
    ∙ ap (pushes t) (sym (concatenated-append w ws vs))

-- a first word
pub begun : {r : List ℕ} (t : List ℕ) (w : List ℕ) → r ≡ pushes t w → r ≡ pushes t (concatenated (w ∷ []))
unfolding concatenated spaced
begun {r} t w e = e ∙ ap (pushes t) (sym (append-nil w))

-- a word is pushed after its space
pub word_is_lem : (t : List ℕ) (w : List ℕ) → pushes (pushes t (32 ∷ [])) w ≡ pushes t (spaced (w ∷ []))
unfolding spaced
word_is_lem t w = sym (pushes-append t (32 ∷ []) w) ∙ ap (λ (l : List ℕ). pushes t (32 ∷ l)) (sym (append-nil w))

pub spaced_two : (t : List ℕ) (a b : List ℕ) → pushes (pushes t (spaced (a ∷ []))) (spaced (b ∷ [])) ≡ pushes t (spaced (a ∷ b ∷ []))
spaced_two t a b = spaced_more t (a ∷ []) (b ∷ []) refl refl

-- what a word writes is known
pub word_known : {A : Type 0} {r : List ℕ} {x y : A} (u : List ℕ) (f : A → List ℕ)
    → r ≡ pushes u (spaced (f x ∷ [])) → x ≡ y → r ≡ pushes u (spaced (f y ∷ []))
word_known {A} u f e p = e ∙ ap (λ (z : A). pushes u (spaced (f z ∷ []))) p

-- the newline ends a line
pub ended : {r u : List ℕ} (t : List ℕ) (ws : List (List ℕ)) → r ≡ pushes u (10 ∷ []) → u ≡ pushes t (concatenated ws) → r ≡ pushes t (line_of ws)
unfolding line_of
ended {r} {u} t ws e f = e ∙ ap (λ (x : List ℕ). pushes x (10 ∷ [])) f ∙ sym (pushes-append t (concatenated ws) (10 ∷ []))

-- a line with room is held whole
pub held_whole : (r : List ℕ) (l : List ℕ) → r ≡ pushes [] l → length l ≤ 198 → (r ≡ l) × (length r ≤ 198)
held_whole r l e h = (e ∙ pushes_text l h, subst (λ (t : List ℕ). length t ≤ 198) (sym (e ∙ pushes_text l h)) h)

-- what follows a macroblock's own words
pub further : (column row : ℕ) (m : Record) (vs : List (List ℕ))
    → concatenated (macroblock_words column row m ++ vs) ≡ concatenated (macroblock_words column row m) ++ spaced vs
unfolding macroblock_words
further column row m vs = concatenated-append (decimal column) _ vs

pub further_more : {r u : List ℕ} (t : List ℕ) (column row : ℕ) (m : Record) (vs : List (List ℕ))
    → r ≡ pushes u (spaced vs) → u ≡ pushes t (concatenated (macroblock_words column row m))
    → r ≡ pushes t (concatenated (macroblock_words column row m ++ vs))
unfolding macroblock_words
further_more t column row m vs e f = concatenated_more t (decimal column) _ vs e f
