-- `coding::residual::macroblock_residual` meets its contract.
use Rattle.std.proofs.Common.{refl, ap, ◌∙◌}
use Rattle.std.specs.Result.{is_ok}
use Rattle.refusal.proofs.Replies.{both_done}
use Rattle.plane.proofs.Ready.{length-done}
use Rattle.plane.proofs.ReadySource.{luma_alone, blue_alone, red_alone}
use Rattle.coding.proofs.residual.macroblock_residual.Goals as goal

pub unwrap-requires : goal.unwrap-requires
unwrap-requires c =
    ap is_ok (c.luma_block.ensures.value ∙ both_done (luma_alone _ _ _ _ _ c.requires.source) (length-done 256 16 16 refl))

pub unwrap-requires-2 : goal.unwrap-requires-2
unwrap-requires-2 c =
    ap is_ok (c.chroma_block.ensures.value ∙ both_done (blue_alone _ _ _ _ _ c.requires.source) (length-done 64 8 8 refl))

pub unwrap-requires-3 : goal.unwrap-requires-3
unwrap-requires-3 c =
    ap is_ok (c.chroma_block-2.ensures.value ∙ both_done (red_alone _ _ _ _ _ c.requires.source) (length-done 64 8 8 refl))
