-- The answer of a run's step, laid out in areas. Assumes nothing.
use Prim.Native.Nat.{ℕ}
use mathlib.Core.List.{List}
use mathlib.Core.Path.{◌≡◌, ap, ◌∙◌}
use Rattle.refusal.specs.Number.{code_of}
use Rattle.refusal.specs.Reply.{done, written}
use Rattle.picture.specs.declared.Run.{Run}
use Rattle.picture.specs.Run.{StepAnswer}
use Rattle.areas.specs.Run.{run_numbers}
use Rattle.areas.specs.Whole.{RecordAreas, record_areas_of}

-- by the run that it goes on from: that run's numbers, the event areas, the record's areas
pub stepped_out : (answer : Run → StepAnswer) (x y : Run) (a : StepAnswer) (r : ℕ) (next run : List ℕ) (new old : RecordAreas) → a ≡ answer x → x ≡ y
    → r ≡ code_of a.answer.coded → next ≡ done a.answer.coded (run_numbers a.run) run
    → new ≡ written a.answer.coded record_areas_of old
    → let told = answer y in
    let coded = told.answer.coded in
    (r ≡ code_of coded)
    × (next ≡ done coded (run_numbers told.run) run)
    × (a.answer.areas ≡ told.answer.areas)
    × (new ≡ written coded record_areas_of old)
stepped_out answer x y a r next run new old e f p n w =
    let g : a ≡ answer y = e ∙ ap answer f in (
      p ∙ ap (λ (t : StepAnswer). code_of t.answer.coded) g,
      n ∙ ap (λ (t : StepAnswer). done t.answer.coded (run_numbers t.run) run) g,
      ap (λ (t : StepAnswer). t.answer.areas) g,
      w ∙ ap (λ (t : StepAnswer). written t.answer.coded record_areas_of old) g,
    )
