-- `plane::copy_block` meets its contract.
use Prim.Native.Nat.{ℕ, ◌*◌}
use native.Mathlib.Nat.{mul_comm, zero-mul}
use mathlib.Core.Path.{◌≡◌, sym, ap, ◌∙◌}
use Rattle.basis.proofs.Lists.{length-raster, empty_same}
use Rattle.plane.proofs.Ready.{usable, length_is}
use Rattle.plane.proofs.copy_block.Goals as goal

pub copy_rows-requires : goal.copy_rows-requires
copy_rows-requires c = (
  (usable _ _ (sym c.reference_reply.ensures ∙ c.in_ok-reference_reply.was)).hold,
  length_is _ _ _ (sym c.length_reply.ensures ∙ c.in_ok-length_reply.was) ∙ mul_comm c.args.w c.args.h,
)

-- a block without columns
pub returns-else-w-ne0-clause-out_after : goal.returns-else-w-ne0-clause-out_after
returns-else-w-ne0-clause-out_after c =
    let w = c.args.w in
    let h = c.args.h in
    let none : w * h ≡ 0 = ap (λ (n : ℕ). n * h) c.if-w-ne0.false ∙ zero-mul h in
    empty_same _ _ (length_is _ _ _ (sym c.length_reply.ensures ∙ c.in_ok-length_reply.was) ∙ none) (length-raster _ _ _ ∙ mul_comm h w ∙ none)
