-- `clip::macroblock_line` meets its contract.
use Prim.Native.Nat.{ℕ}
use mathlib.Core.Bool.{cond}
use mathlib.Core.List.{List, [], ◌++◌}
use mathlib.Core.Path.{ap, ◌∙◌}
use Rattle.clip.specs.Line.{concatenated, macroblock_words, four_words, macroblock_line}
use Rattle.clip.specs.ToldPush.{pushes}
use Rattle.clip.proofs.Lines.{further_more, ended, held_whole}
use Rattle.clip.proofs.Room.{line_short}
use Rattle.clip.proofs.TypedRecord.{typed_record}
use Rattle.clip.proofs.macroblock_line.Goals as goal

pub returns : goal.returns
unfolding macroblock_line
returns c =
    let a = c.args in
    let vs = cond a.four (four_words a.given) [] in
    held_whole _ (macroblock_line a.column a.row a.given a.four)
    (ended [] (macroblock_words a.column a.row a.given ++ vs) c.push_all.ensures
    (further_more [] a.column a.row a.given vs c.further_words.ensures (c.macroblock_words.ensures ∙ ap (λ (t : List ℕ). pushes t (concatenated (macroblock_words a.column a.row a.given))) c.new-line.ensures)))
    (line_short a.column a.row a.given a.four c.ranges.column.fits c.ranges.row.fits (typed_record a.given _ c.well_formed.1.1.0))
