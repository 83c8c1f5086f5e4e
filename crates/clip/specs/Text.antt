-- A line in its area: the bytes that it holds stand first, and 0 in the rest of its 198 places.
use Rattle.std.specs.Prelude.{◌≡◌, List, ◌++◌, ℕ, ◌-◌, ◌≤◌, length, replicate, take, drop}
use Rattle.std.proofs.Common.{sym, ap, subst, ◌∙◌, take-append-drop, length-take-le}
use Rattle.clip.specs.declared.write.Text.TheInside.{Inside}

-- the area that holds the bytes l
abbrev pub text_of : List ℕ → Inside
text_of l = record { bytes = l ++ replicate (198 - length l) 0; len = length l }

-- the bytes that an area holds
abbrev pub taken : Inside → List ℕ
taken t = take t.len t.bytes

-- what holds of every line's area
pub record IsText (t : Inside) : Type 0 where
  pub short : t.len ≤ 198
  pub whole : length t.bytes ≡ 198
  pub rest : drop t.len t.bytes ≡ replicate (198 - t.len) 0

-- so that its bytes give it back
pub text_back : (t : Inside) → IsText t → text_of (taken t) ≡ t
text_back t h =
    let n : length (taken t) ≡ t.len = length-take-le t.len t.bytes (subst (λ (m : ℕ). t.len ≤ m) (sym h.whole) h.short) in
    let b : taken t ++ replicate (198 - length (taken t)) 0 ≡ t.bytes =
    ap (λ (k : ℕ). taken t ++ replicate (198 - k) 0) n
    ∙ ap (λ (l : List ℕ). taken t ++ l) (sym h.rest)
    ∙ take-append-drop t.len t.bytes in
    λ i. record { bytes = b i; len = n i }
