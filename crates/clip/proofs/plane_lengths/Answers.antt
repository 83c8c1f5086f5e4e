-- `clip::plane_lengths` meets its contract.
use native.Mathlib.Omega.{arith}
use mathlib.Core.Path.{◌≡◌, sym, ◌∙◌}
use Rattle.std.specs.Prelude.{Ok}
use Rattle.clip.specs.Header.{head_reply}
use Rattle.clip.proofs.Whole.{Small, small, luma_small, chroma_small, announced}
use Rattle.clip.proofs.plane_lengths.Goals.{In-Ok}
use Rattle.clip.proofs.plane_lengths.Goals as goal

-- where the header is not refused
whole : (c : In-Ok) → head_reply c.args.head ≡ Ok tt
whole c = sym c.head_reply.ensures ∙ c.in-Ok.is

sides : (c : In-Ok) → Small c.args.head
sides c = small _ (whole c)

pub overflow_mul-result : goal.overflow_mul-result
overflow_mul-result c = record { fits = omega (arith, luma_small _ (sides (goal.at.overflow_mul-result c).In-Ok)) }

pub overflow_add-result : goal.overflow_add-result
overflow_add-result c = record { fits = omega (arith, (sides (goal.at.overflow_add-result c).In-Ok).wide) }

pub overflow_add-result-in-Ok : goal.overflow_add-result-in-Ok
overflow_add-result-in-Ok c = record { fits = omega (arith, (sides (goal.at.overflow_add-result-in-Ok c).In-Ok).high) }

pub overflow_mul-result-in-Ok : goal.overflow_mul-result-in-Ok
overflow_mul-result-in-Ok c = record { fits = omega (arith, chroma_small _ (sides (goal.at.overflow_mul-result-in-Ok c).In-Ok)) }

pub returns-in-Ok : goal.returns-in-Ok
returns-in-Ok c =
    let k = (goal.at.returns-in-Ok c).In-Ok in
    (sym (announced _ (Ok tt) (whole k)), luma_small _ (sides k), chroma_small _ (sides k))
