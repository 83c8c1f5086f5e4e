-- `play::row::add_row` meets its contract: a row has eleven macroblocks at most.
use native.Mathlib.Omega.{arith}
use lib.ListN.{length-take}
use Rattle.clip.proofs.Whole.{small}
use Rattle.play.proofs.row.add_row.Goals as goal

pub slice_bounds-read_full-end : goal.slice_bounds-read_full-end
slice_bounds-read_full-end c =
    simp length-take (omega (arith, c.macroblocks-wanted.ensures, (small _ c.args.taken.taken).wide))
