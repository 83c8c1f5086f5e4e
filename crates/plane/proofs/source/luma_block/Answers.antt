-- `plane::source::luma_block` meets its contract.
use native.Mathlib.Omega.{arith}
use mathlib.Core.Path.{sym, ◌∙◌}
use Rattle.plane.proofs.Ready.{length_is}
use Rattle.plane.proofs.ReadySource.{luma_ready, luma_held, column_small, row_small}
use Rattle.plane.proofs.source.luma_block.Goals as goal

pub copy_part-requires : goal.copy_part-requires
copy_part-requires c =
    let r = luma_ready _ _ _ (sym c.luma_reply.ensures ∙ c.in_ok-luma_reply.was) in
    record {
      hold = luma_held _ _ _ r;
      column_small = column_small _ _ r.sides r.place;
      row_small = row_small _ _ r.sides r.place;
      side_small = omega arith;
      area_fits = length_is _ _ _ (sym c.length_reply.ensures ∙ c.in_ok-length_reply.was);
    }
