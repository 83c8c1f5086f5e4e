-- Told, not believed: how a text grows, byte by byte while there is room. The program's lines never want for it (proofs/Room.antt).
use Rattle.std.specs.Prelude.{cond, List, [], ◌∷◌, ◌++◌, ℕ, length, ltb}

-- one byte more
unfoldable pub pushed : List ℕ → ℕ → List ℕ
pushed t b = cond (ltb (length t) 198) (t ++ (b ∷ [])) t

-- a list of bytes more
unfoldable pub pushes : List ℕ → List ℕ → List ℕ
pushes t [] = t
pushes t (b ∷ l) = pushes (pushed t b) l
