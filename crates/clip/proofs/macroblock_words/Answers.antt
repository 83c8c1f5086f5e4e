-- `clip::macroblock_words` meets its contract.
use Prim.Native.Nat.{ℕ}
use mathlib.Core.List.{List, [], ◌∷◌, ◌++◌}
use mathlib.Core.Path.{◌≡◌}
use Rattle.clip.specs.Decimal.{decimal}
use Rattle.clip.specs.Line.{spaced, concatenated, vector_words, macroblock_words}
use Rattle.clip.specs.ToldPush.{pushes}
use Rattle.clip.proofs.Lines.{begun, concatenated_more, word_known}
use Rattle.clip.proofs.macroblock_words.Goals as goal

-- a word more, whose number is known
more : {r u : List ℕ} {n : ℕ} (t : List ℕ) (m : ℕ) (w : List ℕ) (ws : List (List ℕ)) → r ≡ pushes u (spaced (decimal n ∷ [])) → n ≡ m
    → u ≡ pushes t (concatenated (w ∷ ws)) → r ≡ pushes t (concatenated (w ∷ (ws ++ (decimal m ∷ []))))
more {r} {u} t m w ws e p f =
    concatenated_more t w ws (decimal m ∷ []) (word_known u decimal e p) f

pub returns : goal.returns
unfolding macroblock_words
returns c =
    let a = c.args in
    let m = a.given in
    let t = a.line.now in
    let w = decimal a.column in
    let v = decimal a.row ∷ vector_words m.vector in
    let p = v ++ (decimal m.sum ∷ []) in
    let q = p ++ (decimal m.luma_pattern ∷ []) in
    more t _ w (q ++ (decimal m.chroma_pattern ∷ [])) c.word-5.ensures c.event_count.ensures
    (more t _ w q c.word-4.ensures c.from-3.ensures
    (more t _ w p c.word-3.ensures c.from-2.ensures
    (more t _ w v c.word-2.ensures c.from.ensures
    (concatenated_more t w (decimal a.row ∷ []) (vector_words m.vector) c.vector_words.ensures
    (concatenated_more t w [] (decimal a.row ∷ []) c.word.ensures (begun t w c.number.ensures))))))
