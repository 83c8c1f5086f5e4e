-- `clip::four_words` meets its contract.
use Prim.Native.Nat.{ℕ}
use mathlib.Core.List.{List, [], ◌∷◌, ◌++◌}
use Rattle.record.specs.Count.{four_total}
use Rattle.clip.specs.Decimal.{decimal}
use Rattle.clip.specs.Line.{vector_words, vector_at, four_words}
use Rattle.clip.proofs.Lines.{spaced_more, word_known}
use Rattle.clip.proofs.four_words.Goals as goal

pub returns : goal.returns
unfolding four_words
returns c =
    let a = c.args in
    let t = a.line.now in
    let words : ℕ → List (List ℕ) = λ i. vector_words (vector_at a.given i) in
    spaced_more t (words 0 ++ (words 1 ++ (words 2 ++ words 3))) (decimal (four_total a.given.sums) ∷ [])
    (word_known _ decimal c.word.ensures c.four_total.ensures)
    (spaced_more t (words 0 ++ (words 1 ++ words 2)) (words 3) c.vector_words-4.ensures
    (spaced_more t (words 0 ++ words 1) (words 2) c.vector_words-3.ensures
    (spaced_more t (words 0) (words 1) c.vector_words-2.ensures c.vector_words.ensures)))
