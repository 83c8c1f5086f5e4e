-- `prediction::interpolation_reply` meets its contract.
use mathlib.Core.Path.{sym, ap, ap₂, ◌∙◌}
use lib.IntN.{ℤ}
use mir.Syntax.{w32}
use mir.ValLaws.{to_z-of_z}
use Rattle.std.proofs.Common.{rules}
use Rattle.refusal.specs.Reply.{Reply, and_then}
use Rattle.plane.specs.Corner.{block_at}
use Rattle.plane.specs.Reference.{block_reply}
use Rattle.prediction.proofs.Ready.{interpolation_told}
use Rattle.prediction.proofs.interpolation_reply.Goals as goal

pub returns : goal.returns
returns c =
    let a = c.args in
    let o = a.site.corner in
    let block = block_reply a.geometry a.bytes a.vector a.site a.area in
    c.block_numbers_reply.ensures
    ∙ ap₂ (λ (x y : ℤ). block_reply a.geometry a.bytes a.vector (block_at x y a.site.width a.site.height) a.area)
    (to_z-of_z w32 o.x (search rules)) (to_z-of_z w32 o.y (search rules))
    ∙ ap (λ (r : Reply). and_then r block) (sym c.in_ok-mode_reply.was ∙ c.mode_reply.ensures)
    ∙ sym (interpolation_told a.mode a.geometry a.bytes a.vector a.site a.area)
