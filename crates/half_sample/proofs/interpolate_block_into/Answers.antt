-- The corner that is told by numbers is the site's own.
use Rattle.std.proofs.Common.{◌≡◌, ◌∙◌, ap₂, length, ℤ, rules}
use mir.Syntax.{w32}
use mir.Val.{to_z, of_z}
use Rattle.plane.specs.Corner.{block_at}
use Rattle.plane.specs.Reference.{block_reply}
use Rattle.half_sample.proofs.interpolate_block_into.Goals as goal

pub returns-in_err-block_numbers_reply-clause-value : goal.returns-in_err-block_numbers_reply-clause-value
returns-in_err-block_numbers_reply-clause-value c =
    let a = c.args in
    let o = a.site.corner in
    let refused : c.from_residual.result ≡ c.block_numbers_reply.result = search rules in
    let x : to_z w32 (of_z w32 o.x) ≡ o.x = search rules in
    let y : to_z w32 (of_z w32 o.y) ≡ o.y = search rules in
    refused ∙ c.block_numbers_reply.ensures
    ∙ ap₂ (λ (i j : ℤ). block_reply a.geometry (length a.samples.now) a.vector (block_at i j a.site.width a.site.height) (length a.out.now)) x y
