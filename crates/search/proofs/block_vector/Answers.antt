-- `search::block_vector` meets its contract.
use mathlib.Core.Path.{◌≡◌}
use Rattle.plane.specs.Source.{eight_of}
use Rattle.full_search.specs.Block.{block_of}
use Rattle.full_search.specs.Won.{eight_best}
use Rattle.search.specs.Range.{window}
use Rattle.search.specs.Told.{eight_target}
use Rattle.search.proofs.Eights.{part_ready, part_best, part_within}
use Rattle.search.proofs.block_vector.Goals as goal

pub refine_subpel-requires : goal.refine_subpel-requires
refine_subpel-requires c =
    let a = c.args in
    let b = a.sought in
    let t = a.settings in
    let part = block_of (eight_of b.source.now a.n) b.reference.now (eight_target b.target a.n) in
    let best : c.unwrap-winner.result ≡ eight_best part t.mode (window t) a.seed =
    cc (part_best t a.seed b a.n c.requires _ c.full_pel_window-w.ensures) in (
      rw (c.eight_samples.ensures, c.eight_target.ensures) (part_ready t a.seed b a.n c.requires),
      c.requires.settings,
      rw best (part_within t a.seed b a.n c.requires),
    )
