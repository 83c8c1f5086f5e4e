-- `prediction::chroma::one_vector` meets its contract.
use mathlib.Core.Path.{ap, ◌∙◌}
use mir.Syntax.{w32}
use mir.ValLaws.{to_z-of_z}
use Rattle.std.proofs.Common.{rules}
use Rattle.prediction.specs.Chroma.{chroma_of_one, chroma_vector}
use Rattle.prediction.proofs.chroma.one_vector.Goals as goal

pub returns : goal.returns
unfolding chroma_vector
returns c =
    let v = c.args.v in
    λ i.
    record {
      x = (to_z-of_z w32 c.of_one.result (search rules) ∙ c.of_one.ensures ∙ ap chroma_of_one (to_z-of_z w32 v.x (search rules))) i;
      y = (to_z-of_z w32 c.of_one-2.result (search rules) ∙ c.of_one-2.ensures ∙ ap chroma_of_one (to_z-of_z w32 v.y (search rules))) i;
    }
