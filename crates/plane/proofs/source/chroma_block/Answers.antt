-- `plane::source::chroma_block` meets its contract.
use native.Mathlib.Omega.{arith}
use mathlib.Core.Path.{sym, subst, ◌∙◌}
use Rattle.plane.specs.declared.SourceSize.{SourceSize}
use Rattle.plane.specs.ToldHeld.{Held}
use Rattle.plane.specs.Source.{packed}
use Rattle.plane.proofs.Ready.{length_is}
use Rattle.plane.proofs.ReadySource.{chroma_ready, chroma_held, column_small, row_small}
use Rattle.plane.proofs.source.chroma_block.Goals as goal

pub copy_part-requires : goal.copy_part-requires
copy_part-requires c =
    let r = chroma_ready _ _ _ (sym c.chroma_reply.ensures ∙ c.in_ok-chroma_reply.was) in
    record {
      hold = subst (λ (z : SourceSize). Held (packed c.args.chroma.now z)) (sym c.chroma_size.ensures) (chroma_held _ _ _ r);
      column_small = column_small _ _ r.sides r.place;
      row_small = row_small _ _ r.sides r.place;
      side_small = omega arith;
      area_fits = length_is _ _ _ (sym c.length_reply.ensures ∙ c.in_ok-length_reply.was);
    }
