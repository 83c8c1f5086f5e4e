-- `clip::refusal_line` meets its contract.
use Prim.Native.Nat.{ℕ, ◌<◌}
use mathlib.Core.List.{List, [], ◌∷◌}
use mathlib.Core.Path.{◌∙◌, ap, subst}
use Rattle.refusal.specs.Number.{number_of}
use Rattle.clip.specs.Decimal.{decimal}
use Rattle.clip.specs.Line.{refused_word, refusal_line}
use Rattle.clip.specs.ToldPush.{pushes}
use Rattle.clip.proofs.Lines.{begun, concatenated_more, word_known, ended, held_whole}
use Rattle.clip.proofs.Room.{refusal_short}
use Rattle.clip.proofs.refusal_line.Goals as goal

pub returns : goal.returns
unfolding refusal_line
returns c =
    let why = c.args.why in
    let code = c.from-2.ensures ∙ c.from.ensures in
    held_whole _ (refusal_line why)
    (ended [] (refused_word ∷ decimal (number_of why) ∷ []) c.push_all-2.ensures
    (concatenated_more [] refused_word [] (decimal (number_of why) ∷ [])
    (word_known _ decimal c.word.ensures code)
    (begun [] refused_word (c.push_all.ensures ∙ ap (λ (t : List ℕ). pushes t refused_word) c.new-refused.ensures))))
    (refusal_short why (subst (λ (n : ℕ). n < 256) c.from.ensures c.from.type_inv))
